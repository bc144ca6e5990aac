use Rattle.std.proofs.Common.{◌≡◌, ◌∷◌, Some, refl, ap, ◌∙◌}
use Rattle.json.specs.Json as json
use Rattle.json.specs.Token.{Token}
use Rattle.json.specs.Reads.{token_of}
use Rattle.json.proofs.Grammar.{value_is}
use Rattle.serde_json.specs.Data.{boolean}
use Rattle.document_shapes.specs.Shape.{truth}
use Rattle.document_shapes.proofs.TokenLemmas.{takes-token}
use Rattle.document_shapes.proofs.from_tokens.BoolFromTokens.from_tokens.Goals as goal

pub returns-in-Bool : goal.returns-in-Bool
returns-in-Bool c =
    let b = c.in-Bool.truth in
    let rest = c.next.new.self in
    let first : c.args.tokens.now.reader ≡ Token.boolean b ∷ rest = c.in_ok-truth.ensures.value ∙ ap (λ k. token_of k ∷ rest) c.in-Bool.is in
    takes-token (λ d v. truth d ≡ Some v) c.args._depth b c.args.tokens.now.reader rest (Token.boolean b) (json.boolean b) (boolean b) first
    (value_is c.args._depth (Token.boolean b ∷ rest)) refl refl
