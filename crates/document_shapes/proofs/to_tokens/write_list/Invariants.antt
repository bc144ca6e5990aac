use Rattle.document_shapes.proofs.ListWritten.{WrittenTo}
use Rattle.document_shapes.proofs.to_tokens.write_list.Given as goal

abbrev pub invariant-loop-item : goal.invariant-loop-item
invariant-loop-item g l = WrittenTo g.T.ToTokens.stands g.T.ToTokens.in_range l.items l.fn.text l.text l.item-index
