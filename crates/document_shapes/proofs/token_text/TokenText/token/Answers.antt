use Rattle.json.specs.Reads.{token_of}
use Rattle.document_shapes.proofs.AddedLemmas.{adds-token}
use Rattle.document_shapes.proofs.token_text.TokenText.token.Goals as goal

pub returns : goal.returns
returns c =
    adds-token (token_of c.args.token) _ _ _ c.token-written.result c.token-written.ensures c.note.ensures.writer c.note.ensures.before c.note.ensures.now
