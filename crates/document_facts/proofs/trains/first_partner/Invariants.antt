use Rattle.std.proofs.Common.{ℕ, ◌<◌}
use Rattle.document_facts.specs.Sections.{EndTogether}
use Rattle.document_facts.proofs.trains.first_partner.Given as goal

abbrev pub invariant-loop-first : goal.invariant-loop-first
invariant-loop-first l = (j : ℕ) → j < l.first → EndTogether l.table j l.train → ⊥
