use Rattle.std.proofs.Common.{◌≡◌, ◌∷◌, Some, ap, ◌∙◌}
use Rattle.json.specs.Token.{Token}
use Rattle.json.specs.Reads.{token_of}
use Rattle.document_shapes.specs.Shape.{change}
use Rattle.document_shapes.specs.Taken.{number_read}
use Rattle.document_shapes.proofs.TokenLemmas.{takes-number, if_some}
use Rattle.document_shapes.proofs.from_tokens.I32FromTokens.from_tokens.Goals as goal

pub returns-in-Number : goal.returns-in-Number
returns-in-Number c =
    let s = c.in-Number.text.now in
    let rest = c.next.new.self in
    let first : c.args.tokens.now.reader ≡ Token.number s ∷ rest = c.in_ok-text.ensures.value ∙ ap (λ k. token_of k ∷ rest) c.in-Number.is in
    if_some c.change_of.result (λ x. number_read change s ≡ Some x) _ (λ x reads. takes-number change c.args._depth x c.args.tokens.now.reader rest s first reads) c.change_of.ensures
