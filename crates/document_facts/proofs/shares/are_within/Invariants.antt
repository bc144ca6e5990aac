use Rattle.std.proofs.Common.{ℕ, ◌<◌, pos, ◌≤ℤ◌}
use Rattle.std.specs.Prelude.{slice_index_or}
use Rattle.document_facts.proofs.shares.are_within.Given as goal

abbrev pub invariant-loop-place : goal.invariant-loop-place
invariant-loop-place l = (k : ℕ) → k < l.place → (pos 0 ≤ℤ slice_index_or l.numbers k (pos 0)) × (slice_index_or l.numbers k (pos 0) ≤ℤ l.most)
