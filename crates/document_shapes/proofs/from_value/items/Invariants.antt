use Rattle.document_shapes.proofs.ListLemmas.{ReadTo}
use Rattle.document_shapes.proofs.from_value.items.Given as goal

abbrev pub invariant-loop-value : goal.invariant-loop-value
invariant-loop-value g l = ReadTo g.T.FromValue.reads l.values l.found.items l.value-index
