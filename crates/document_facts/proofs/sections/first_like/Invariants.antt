use Rattle.std.proofs.Common.{ℕ, ◌<◌, ◌≡◌}
use Rattle.rail_model.specs.Table.{section}
use Rattle.document_facts.proofs.sections.first_like.Given as goal

abbrev pub invariant-loop-first : goal.invariant-loop-first
invariant-loop-first l = (r : ℕ) → r < l.first → section l.table r ≡ section l.table l.section → ⊥
