use Rattle.std.proofs.Common.{◌≡◌, Ok}
use Rattle.document_shapes.specs.DocumentFound.{DocumentFinds, IsWholeDocument}
use Rattle.document_shapes.specs.Raw.{doc_members}
use Rattle.document_shapes.specs.Seen.{seen_document}
use Rattle.document_shapes.proofs.FoundLemmas.{takes-found}
use Rattle.document_shapes.proofs.FoundParts.{document-found}
use Rattle.document_shapes.proofs.TokenLemmas.{if_some}
use Rattle.document_shapes.proofs.token_document.DocMembersFromTokens.from_tokens.Goals as goal

pub returns : goal.returns
returns c =
    let found = c.in_ok-found.found in
    if_some c.of_known_version.result (λ m. IsWholeDocument found m) _
    (λ m is. takes-found DocumentFinds (λ d v. doc_members d ≡ Ok (seen_document v)) found m (λ ms h. document-found ms found m is h)
    c.args.depth c.args.tokens.now.reader c.object.new.tokens.reader c.in_ok-found.ensures) c.of_known_version.ensures
