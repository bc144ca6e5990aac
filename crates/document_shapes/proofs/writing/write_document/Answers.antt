use Rattle.std.proofs.Common.{◌∙◌, ◌++◌, [], ◌∷◌, ap}
use Rattle.document_shapes.specs.Raw.{members_of}
use Rattle.document_shapes.specs.Seen.{seen_document}
use Rattle.document_shapes.specs.Written.{doc_data}
use Rattle.document_shapes.proofs.AddedLemmas.{printed-text}
use Rattle.document_shapes.proofs.WrittenBack.{text-back}
use Rattle.document_shapes.proofs.writing.write_document.Goals as goal

pub returns-clause-text : goal.returns-clause-text
returns-clause-text c =
    let d = doc_data (seen_document c.args.document.now) in
    c.in_ok-push.ensures.items
    ∙ ap (λ t. t ++ 10 ∷ [])
    (c.in_ok-bytes.ensures.text ∙ printed-text d _ _ c.new-text.ensures.before c.new-text.ensures.tokens c.to_tokens.ensures.tokens c.in_ok-bytes.ensures.whole)

pub returns-clause-reads_back : goal.returns-clause-reads_back
returns-clause-reads_back c of =
    ap members_of (returns-clause-text c) ∙ text-back (seen_document c.args.document.now) of c.to_tokens.ensures.in_range
