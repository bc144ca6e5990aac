use Rattle.std.proofs.Common.{◌≡◌, ◌∷◌, Some, refl, ap, sym, ◌∙◌, string_bytes}
use Rattle.json.specs.Json as json
use Rattle.json.specs.Token.{Token}
use Rattle.json.specs.Reads.{token_of}
use Rattle.serde_json.specs.Data.{string}
use Rattle.document_shapes.specs.Shape.{text}
use Rattle.document_shapes.proofs.TokenLemmas.{takes-token, value-string, if_some}
use Rattle.document_shapes.proofs.from_tokens.StringFromTokens.from_tokens.Goals as goal

pub returns-in-String : goal.returns-in-String
returns-in-String c =
    let s = c.in-String.text.now in
    let rest = c.next.new.self in
    let first : c.args.tokens.now.reader ≡ Token.string s ∷ rest = c.in_ok-text.ensures.value ∙ ap (λ k. token_of k ∷ rest) c.in-String.is in
    if_some c.copied.result (λ x. string_bytes x ≡ s) _
    (λ x same. takes-token (λ d v. text d ≡ Some (string_bytes v)) c.args._depth x c.args.tokens.now.reader rest (Token.string s) (json.string s) (string s) first
    (value-string c.args._depth s rest) refl (ap Some (sym same))) c.copied.ensures
