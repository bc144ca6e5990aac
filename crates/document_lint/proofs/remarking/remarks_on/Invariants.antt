use Rattle.std.proofs.Common.{◌≡◌}
use Rattle.std.specs.Prelude.{take}
use Rattle.document_lint.specs.Told.{facts_of}
use Rattle.document_lint.proofs.remarking.remarks_on.Given as goal

abbrev pub invariant-loop-fact : goal.invariant-loop-fact
invariant-loop-fact l = facts_of l.remarks.items ≡ take l.fact-index l.facts
