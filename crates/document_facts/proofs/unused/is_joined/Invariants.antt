use Rattle.std.proofs.Common.{ℕ, ◌<◌}
use Rattle.document_facts.specs.Used.{LeadsTo, link_at}
use Rattle.document_facts.proofs.unused.is_joined.Given as goal

abbrev pub invariant-loop-number : goal.invariant-loop-number
invariant-loop-number l = (k : ℕ) → k < l.number → LeadsTo (link_at l.layout k) l.point → ⊥
