use Rattle.std.proofs.Common.{◌≡◌, decimal, map}
use Rattle.std.specs.List.{range_with_len}
use Rattle.toml.specs.View.{view}
use Rattle.plan_patterns.specs.Numbered.{numbered}
use Rattle.plan_patterns.proofs.writing.numbered_copies.Given as goal

abbrev pub invariant-loop-before : goal.invariant-loop-before
invariant-loop-before l = map view l.all.items ≡ map (λ k. numbered (decimal k) (view l.entry)) (range_with_len 1 l.before)
