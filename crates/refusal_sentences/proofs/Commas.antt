-- A list of numbers with commas between them, taken apart at the commas.
use Rattle.std.proofs.Common.{◌≡◌, ◌≢◌, ◌∙◌, ℕ, ◌<◌, ◌^◌, List, [], ◌∷◌, length, map, get_or, eqb, false, refl, sym, ap, subst, arith}
use Rattle.std.specs.Prelude.{decimal, None, All}
use Rattle.std.specs.List.{slice_split}
use Rattle.std.proofs.lemmas.Bool.Decides.{nat_tests}
use Rattle.std.proofs.lemmas.List.Elements.{All-from_get_or, All-get_or, All-head, All-tail, All-map, All-weaker}
use Rattle.std.proofs.lemmas.List.Splits.{slice_split_none, slice_split_at}
use Rattle.std.proofs.lemmas.Str.Parse.{not_in_digits}
use Rattle.decimal_number.specs.Decimal.{number_of}
use Rattle.decimal_number.proofs.Numbers.{own, digits-decimal, number_of-decimal}
use Rattle.refusal_lines.specs.Makers.{places_words}
use Rattle.refusal_sentences.specs.Places.{ArePlaces}

-- a number's text has no comma
no_comma : (n : ℕ) → n < 2 ^ 32 → All (λ b. eqb b 44 ≡ false) (decimal n)
no_comma n small =
    All-from_get_or (λ b. eqb b 44 ≡ false) (decimal n) 0
    (λ i lt. let apart : get_or (decimal n) i 0 ≢ 44 = not_in_digits own (decimal n) 44 (digits-decimal n small) (λ h. omega (arith, h.0)) i lt in grind (arith, nat_tests))

-- the parts are the texts of the places
split_places : (p : List ℕ) → 0 < length p → All (λ n. n < 2 ^ 32) p → slice_split (λ b. eqb b 44) (places_words p) ≡ map decimal p
split_places [] some small = absurd (omega arith)
split_places (n ∷ []) some small = slice_split_none (λ b. eqb b 44) (decimal n) (no_comma n (All-head (λ k. k < 2 ^ 32) n [] small))
split_places (n ∷ m ∷ more) some small =
    slice_split_at (λ b. eqb b 44) (decimal n) 44 (places_words (m ∷ more)) (no_comma n (All-head (λ k. k < 2 ^ 32) n (m ∷ more) small)) refl
    ∙ ap (λ parts. decimal n ∷ parts) (split_places (m ∷ more) (omega arith) (All-tail (λ k. k < 2 ^ 32) n (m ∷ more) small))

-- words with a part that is no number aren't the text of places
pub not_places : (words word : List ℕ) (i : ℕ) (p : List ℕ) → i < length (slice_split (λ b. eqb b 44) words) → word ≡ get_or (slice_split (λ b. eqb b 44) words) i word
    → number_of word ≡ None → ArePlaces p → words ≡ places_words p → ⊥
not_places words word i p within at none are text =
    let parts : slice_split (λ b. eqb b 44) words ≡ map decimal p = ap (slice_split (λ b. eqb b 44)) text ∙ split_places p are.some are.small in
    let read : All (λ x. number_of x ≡ None → ⊥) (map decimal p) =
    All-map (λ x. number_of x ≡ None → ⊥) decimal p (All-weaker (λ n. n < 2 ^ 32) (λ n. number_of (decimal n) ≡ None → ⊥) (λ n small e. let some = number_of-decimal n small in cc) p are.small) in
    let lt : i < length (map decimal p) = subst (λ (xs : List (List ℕ)). i < length xs) parts within in
    let here : number_of (get_or (map decimal p) i word) ≡ None = subst (λ (xs : List (List ℕ)). number_of (get_or xs i word) ≡ None) parts (ap number_of (sym at) ∙ none) in
    All-get_or (λ x. number_of x ≡ None → ⊥) (map decimal p) i word lt read here
