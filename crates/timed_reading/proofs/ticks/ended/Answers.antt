use Rattle.std.proofs.Common.{rules, ◌≡◌, ◌∙◌, ◌+◌, ◌-◌, ◌++◌, List, ℕ, codes, length, take, drop, sym, ap, arith}
use Rattle.std.specs.Prelude.{Some}
use Rattle.std.proofs.lemmas.List.{take_all, length-drop}
use Rattle.decimal_number.specs.Decimal.{number_of}
use Rattle.decimal_number.proofs.Numbers.{number_takes}
use Rattle.timed_reading.proofs.Splits.{needle_split}
use Rattle.timed_reading.proofs.ticks.ended.Goals as goal

pub returns : goal.returns
returns c =
    let words = c.args.words.now in
    let k = c.in_ok-place.place in
    let digits = take (length words - (k + 6)) (drop (k + 6) words) in
    let all : digits ≡ drop (k + 6) words = take_all _ _ (omega (arith, length-drop (k + 6) words)) in
    let number : number_of digits ≡ Some c.in_ok-last.last = search rules in
    needle_split words (codes " last=") k c.in_ok-place.ensures
    ∙ ap (λ (later : List ℕ). take k words ++ codes " last=" ++ later) (sym all ∙ (number_takes digits c.in_ok-last.last number).text)
