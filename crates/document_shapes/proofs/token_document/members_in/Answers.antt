use Rattle.std.proofs.Common.{◌≡◌, [], Ok, subst, rules}
use Rattle.json.specs.Lex.{tokens}
use Rattle.document_shapes.specs.Raw.{doc_members}
use Rattle.document_shapes.specs.Seen.{seen_document}
use Rattle.document_shapes.specs.Taken.{Takes}
use Rattle.document_shapes.proofs.TextBack.{text-read}
use Rattle.document_shapes.proofs.token_document.members_in.Goals as goal

pub returns-in-None : goal.returns-in-None
returns-in-None c =
    let none : c.from_tokens.new.tokens.reader ≡ [] = search rules in
    let text = c.args.text.now in
    let members = c.in_ok-members.members in
    let all : Takes (λ d m. doc_members d ≡ Ok (seen_document m)) 127 (tokens text) members c.from_tokens.new.tokens.reader =
    subst (λ ts. Takes (λ d m. doc_members d ≡ Ok (seen_document m)) 127 ts members c.from_tokens.new.tokens.reader) c.in-Ok.ensures.ok c.in_ok-members.ensures in
    text-read seen_document text members (subst (λ ts. Takes (λ d m. doc_members d ≡ Ok (seen_document m)) 127 (tokens text) members ts) none all)
