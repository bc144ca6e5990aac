use Rattle.std.proofs.Common.{rules, ◌≡◌, ◌∙◌, ◌++◌, ◌∷◌, List, ℕ, ap}
use Rattle.std.specs.Prelude.{Some}
use Rattle.decimal_number.specs.Decimal.{number_of}
use Rattle.decimal_number.proofs.Numbers.{number_takes}
use Rattle.timed_reading.proofs.ticks.ticked.Goals as goal

pub returns : goal.returns
returns c =
    let word = c.in_ok-word.word.now in
    let rest = c.in_ok-word.rest.now in
    let cut : c.args.words.now ≡ word ++ 32 ∷ rest = search rules in
    let number : number_of word ≡ Some c.in_ok-tick.tick = search rules in
    cut ∙ ap (λ (digits : List ℕ). digits ++ 32 ∷ rest) (number_takes word c.in_ok-tick.tick number).text
