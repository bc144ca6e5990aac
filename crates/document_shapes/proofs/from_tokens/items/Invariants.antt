use Rattle.std.proofs.Common.{length}
use Rattle.document_shapes.proofs.TokenLemmas.{ItemsTo}
use Rattle.document_shapes.proofs.from_tokens.items.Given as goal

abbrev pub invariant-items : goal.invariant-items
invariant-items g l = ItemsTo g.T.FromTokens.reads l.depth l.initial.tokens.reader l.found.items l.tokens.reader

abbrev pub decreases-items : goal.decreases-items
decreases-items g l = length l.tokens.reader
