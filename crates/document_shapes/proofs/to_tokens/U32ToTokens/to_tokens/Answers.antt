use Rattle.std.proofs.Common.{[], ◌∷◌, subst}
use Rattle.std.specs.Prelude.{decimal}
use Rattle.json.specs.Token.{number}
use Rattle.document_shapes.specs.Added.{AddsTokens}
use Rattle.document_shapes.proofs.AddedLemmas.{adds-token}
use Rattle.document_shapes.proofs.to_tokens.U32ToTokens.to_tokens.Goals as goal

pub returns-clause-tokens : goal.returns-clause-tokens
returns-clause-tokens c =
    subst (λ n. AddsTokens (number (decimal n) ∷ []) c.args.text.now c.note.new.self) c.from.ensures
    (adds-token _ _ _ _ c.u64-written.result c.u64-written.ensures c.note.ensures.writer c.note.ensures.before c.note.ensures.now)
