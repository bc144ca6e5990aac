use Rattle.std.proofs.Common.{rules}
use Rattle.document_shapes.proofs.AddedLemmas.{adds-token}
use Rattle.document_shapes.proofs.to_tokens.I32ToTokens.to_tokens.Goals as goal

pub returns-clause-tokens : goal.returns-clause-tokens
returns-clause-tokens c =
    let added = adds-token _ _ _ _ c.i64-written.result c.i64-written.ensures c.note.ensures.writer c.note.ensures.before c.note.ensures.now in
    record { noted = added.noted; tokens = λ fine. let tokens = added.tokens fine in search rules; before = added.before }
