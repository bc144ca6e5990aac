-- Words that are numbers.
use Rattle.std.proofs.Common.{◌≡◌, ℕ, ◌<◌, ◌^◌, ◌&&◌, List, length, true, false, cond, Some, None, Result, Ok, Err, refl, sym, ap, ◌∙◌, arith, ltb, get_or, decimal, inl, inr}
use Rattle.std.proofs.lemmas.Bool.{cases_lt}
use Rattle.std.specs.Result.{OkIff, result_ok}
use Rattle.std.specs.Str.{all_ascii_digits, IsUtf8}
use Rattle.std.specs.Str.Parse.{ParsesUnsigned, digits_value}
use Rattle.std.proofs.lemmas.Bool.Decides.{nat_tests}
use Rattle.std.proofs.lemmas.Option.{cond_some}
use Rattle.std.proofs.lemmas.Str.{IsUtf8-from_ascii}
use Rattle.std.proofs.lemmas.Str.Parse.{IsNumeralModel, numerals_by_value, tells_all_ascii_digits, parse_digits}
use Rattle.std.proofs.lemmas.Fmt.{digits_decimal, digits_value-decimal, decimal-digits_value, decimal_nonempty, first_decimal, decimal_digit, IsAscii-from_digits}
use Rattle.decimal_number.specs.Decimal.{has_leading_zero, is_decimal, number_of}

-- `all_ascii_digits` and `digits_value` are words for decimal digits and their value
pub own : IsNumeralModel (λ ds. all_ascii_digits ds ≡ true) (digits_value 10)
own = numerals_by_value _ tells_all_ascii_digits

-- where a word isn't decimal, it is no number
pub number_of-not_decimal : (word : List ℕ) → is_decimal word ≡ false → number_of word ≡ None
unfolding number_of
number_of-not_decimal word other =
    ap (λ b. cond (b && ltb (digits_value 10 word) (2 ^ 32)) (Some (digits_value 10 word)) None) other

-- the test of the size and the number, as variables
fits : {E : Type 0} (r : Result ℕ E) (length value : ℕ) → OkIff r ((0 < length) × (value < 2 ^ 32)) value → 0 < length → cond (ltb value (2 ^ 32)) (Some value) None ≡ result_ok r
fits (Ok x) length value h some = grind (arith, nat_tests)
fits (Err e) length value h some = grind (arith, nat_tests)

-- a decimal word is the number that `parse` reads
pub number_of-parse : {E : Type 0} (word : List ℕ) (r : Result ℕ E) → ParsesUnsigned 32 10 word r → is_decimal word ≡ true → number_of word ≡ result_ok r
unfolding number_of
number_of-parse word r parsed is =
    let digits : all_ascii_digits word ≡ true = grind (arith, nat_tests) in
    let some : 0 < length word = grind (arith, nat_tests) in
    ap (λ b. cond (b && ltb (digits_value 10 word) (2 ^ 32)) (Some (digits_value 10 word)) None) is
    ∙ fits r (length word) (digits_value 10 word) (parse_digits own 32 word r parsed digits) some

-- what is a number, and its text
pub record Numeral (word : List ℕ) (n : ℕ) : Type 0 where
  pub small : n < 2 ^ 32
  pub text : word ≡ decimal n
  pub digits : all_ascii_digits word ≡ true

-- what is read as a number is its text
pub number_takes : (word : List ℕ) (n : ℕ) → number_of word ≡ Some n → Numeral word n
unfolding number_of
number_takes word n is =
    let p = cond_some (is_decimal word && ltb (digits_value 10 word) (2 ^ 32)) (digits_value 10 word) n is in
    let test : is_decimal word && ltb (digits_value 10 word) (2 ^ 32) ≡ true = p.0 in
    let value : digits_value 10 word ≡ n = p.1 in
    let digits : all_ascii_digits word ≡ true = grind (arith, nat_tests) in
    let some : 0 < length word = grind (arith, nat_tests) in
    let below : digits_value 10 word < 2 ^ 32 = grind (arith, nat_tests) in
    let plain : get_or word 0 0 ≡ 48 → length word ≡ 1 = (λ z. grind (arith, nat_tests)) in
    record {
      small = omega arith;
      text = sym (decimal-digits_value own word digits some plain (omega arith)) ∙ ap decimal value;
      digits = digits;
    }

-- a number's text is digits
pub digits-decimal : (n : ℕ) → n < 2 ^ 32 → all_ascii_digits (decimal n) ≡ true
digits-decimal n small = digits_decimal own n (omega arith)

-- a number's text has no leading zero
pub has_leading_zero-decimal : (n : ℕ) → n < 2 ^ 32 → has_leading_zero (decimal n) ≡ false
has_leading_zero-decimal n small = elim (cases_lt n 10) [
  | inl low ↦ rw (decimal_digit n low) (grind (arith, nat_tests))
  | inr high ↦ let first : 48 < get_or (decimal n) 0 0 = first_decimal n (omega arith) (omega arith) in grind (arith, nat_tests)
]

-- a number's text is read as the number
pub number_of-decimal : (n : ℕ) → n < 2 ^ 32 → number_of (decimal n) ≡ Some n
unfolding number_of
number_of-decimal n small =
    let value : digits_value 10 (decimal n) ≡ n = digits_value-decimal own n (omega arith) in
    let digits : all_ascii_digits (decimal n) ≡ true = digits-decimal n small in
    let plain : has_leading_zero (decimal n) ≡ false = has_leading_zero-decimal n small in
    let some : ltb 0 (length (decimal n)) ≡ true = grind (arith, nat_tests, decimal_nonempty n (omega arith)) in
    let below : ltb n (2 ^ 32) ≡ true = grind (arith, nat_tests) in
    rw (plain, digits, some, value, below) refl

-- bytes that are no text are no number
pub number_of-not_utf8 : (word : List ℕ) → (IsUtf8 word → ⊥) → number_of word ≡ None
number_of-not_utf8 word not_text = elim (number_of word) as (λ o. number_of word ≡ o → o ≡ None) [
  | None ↦ λ e. refl
  | Some n ↦ λ e. absurd (not_text (IsUtf8-from_ascii word (IsAscii-from_digits word (own.to word (number_takes word n e).digits))))
] refl
