use Rattle.std.proofs.Common.{◌≡◌, ℕ, [], map, Vec, Global}
use Rattle.std.specs.Prelude.{replicate}
use Rattle.live_session.proofs.tags.WantTags.new.Given as goal

abbrev pub invariant-loop-train : goal.invariant-loop-train
invariant-loop-train l = map (λ (tag : Vec ℕ Global). tag.items) l.tags.items ≡ replicate l._train []
