use Rattle.std.proofs.Common.{ℕ, ◌<◌, ◌+◌}
use Rattle.std.specs.Prelude.{slice_index}
use Rattle.document_facts.specs.Used.{Joins}
use Rattle.document_facts.proofs.unused.goes_along.Given as goal

abbrev pub invariant-loop-place : goal.invariant-loop-place
invariant-loop-place l = (k : ℕ) → k + 1 < l.place → Joins l.link (slice_index l.points k) (slice_index l.points (k + 1)) → ⊥
