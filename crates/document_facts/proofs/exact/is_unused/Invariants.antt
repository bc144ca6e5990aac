use Rattle.std.proofs.Common.{ℕ, ◌<◌, pos, ◌≤ℤ◌}
use Rattle.document_facts.specs.Sections.{most}
use Rattle.document_facts.proofs.exact.is_unused.Given as goal

abbrev pub invariant-loop-train : goal.invariant-loop-train
invariant-loop-train l = (j : ℕ) → j < l.train → most l.table l.section j ≤ℤ pos 0
