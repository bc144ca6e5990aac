use Rattle.std.proofs.Common.{◌≡◌, Some, Ok, option_map, subst}
use Rattle.serde_json.specs.Read.{read}
use Rattle.document_shapes.specs.Raw.{doc_members}
use Rattle.document_shapes.specs.Seen.{seen_document}
use Rattle.document_shapes.proofs.TextBack.{text-members}
use Rattle.document_shapes.proofs.TokenLemmas.{if_some}
use Rattle.document_shapes.proofs.token_document.read_tokens.Goals as goal

pub returns : goal.returns
returns c =
    let text = c.in-Ok.text.now in
    let cases = c.in-Ok.ensures.cases in
    if_some c.members_in.result (λ m. option_map doc_members (read text) ≡ Some (Ok (seen_document m))) _
    (λ m h. text-members c.args.bytes.now (Ok (seen_document m)) cases.1 (subst (λ t. option_map doc_members (read t) ≡ Some (Ok (seen_document m))) cases.0 h))
    c.members_in.ensures
