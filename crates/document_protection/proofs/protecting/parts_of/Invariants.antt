use Rattle.document_protection.proofs.Parts.{ArePartsBelow}
use Rattle.document_protection.proofs.protecting.parts_of.Given as goal

abbrev pub invariant-loop-table : goal.invariant-loop-table
invariant-loop-table g l = ArePartsBelow l.tables l.table-index l.guards.items l.parts.items
