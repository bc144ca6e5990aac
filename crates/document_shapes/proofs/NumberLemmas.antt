-- The numbers that decimal digits write.
use Rattle.std.proofs.Common.{◌≡◌, ℕ, zero, suc, ◌+◌, ◌-◌, ◌<◌, ◌≤◌, ◌^◌, pos, negsuc, List, [], ◌∷◌, length, slice_index_or, Option, Some, None, refl, sym, ap, ◌∙◌, arith}
use Rattle.std.specs.Prelude.{neg_ℤ, ◌≤ℤ◌, option_and_then}
use Rattle.std.proofs.lemmas.Fmt.{decimal_digit}
use Rattle.std.proofs.lemmas.Int.{ints}
use Rattle.decimal_number.specs.Decimal as decimal
use Rattle.decimal_number.proofs.Numbers.{number_takes, number_of-decimal as word_of-decimal}
use Rattle.serde_json.specs.Data.{Num, number, unsigned, negative}
use Rattle.serde_json.specs.Read.{number_of}
use Rattle.serde_json.proofs.Numbers.{number_of-decimal, number_of-negative}
use Rattle.document_shapes.specs.Shape.{Shape, whole, change}
use Rattle.document_shapes.specs.Taken.{number_read}
use Rattle.document_shapes.proofs.BackLemmas.{whole-as, change-back}

-- the number that a text is
pub number_read-is : {A : Type 0} (shape : Shape A) (s : List ℕ) (k : Num) → number_of s ≡ Some k → number_read shape s ≡ shape (number k)
unfolding number_read
number_read-is shape s k e = ap (option_and_then (λ n. shape (number n))) e

some_number : {A : Type 0} (shape : Shape A) (o : Option Num) (x : A) → option_and_then (λ n. shape (number n)) o ≡ Some x → (k : Num) × (o ≡ Some k) × (shape (number k) ≡ Some x)
some_number shape None x e = absurd cc
some_number shape (Some k) x e = (k, refl, e)

pub number_read-some : {A : Type 0} (shape : Shape A) (s : List ℕ) (x : A) → number_read shape s ≡ Some x → (k : Num) × (number_of s ≡ Some k) × (shape (number k) ≡ Some x)
unfolding number_read
number_read-some shape s x e = some_number shape (number_of s) x e

whole-number : (s : List ℕ) (n : ℕ) → decimal.number_of s ≡ Some n → number_of s ≡ Some (unsigned n)
whole-number s n h = let t = number_takes s n h in ap number_of t.text ∙ number_of-decimal n (omega (arith, t.small))

pub whole-read : (s : List ℕ) (n : ℕ) → decimal.number_of s ≡ Some n → number_read whole s ≡ Some n
whole-read s n h = number_read-is whole s (unsigned n) (whole-number s n h) ∙ (whole-as n (number_takes s n h).small).back

-- a text of one digit
pub digit-read : (s : List ℕ) (n : ℕ) → 1 ≤ length s → length s < 2 → n ≡ slice_index_or s 0 0 - 48 → 48 ≤ slice_index_or s 0 0 → slice_index_or s 0 0 < 58
    → number_read whole s ≡ Some n
digit-read [] n some few is low high = absurd (omega arith)
digit-read (d ∷ []) n some few is low high =
    let small : n < 10 = omega arith in
    let same : d ≡ 48 + n = omega arith in
    whole-read (d ∷ []) n (ap decimal.number_of (ap (λ x. x ∷ []) same ∙ sym (decimal_digit n small)) ∙ word_of-decimal n (omega arith))
digit-read (d ∷ e ∷ ds) n some few is low high = absurd (omega arith)

pub change-read : (s : List ℕ) (n : ℕ) → decimal.number_of s ≡ Some n → n < 2 ^ 31 → number_read change s ≡ Some (pos n)
change-read s n h small =
    let low : neg_ℤ (pos (2 ^ 31)) ≤ℤ pos n = omega (arith, ints) in
    let high : pos n ≤ℤ pos (2 ^ 31 - 1) = omega (arith, ints) in
    number_read-is change s (unsigned n) (whole-number s n h) ∙ change-back (pos n) (low, high)

minus-number : (s : List ℕ) (n : ℕ) → decimal.number_of s ≡ Some (suc n) → number_of (45 ∷ s) ≡ Some (negative (negsuc n))
minus-number s n h = let t = number_takes s (suc n) h in ap (λ r. number_of (45 ∷ r)) t.text ∙ number_of-negative n (omega (arith, t.small))

pub minus-read : (s : List ℕ) (n : ℕ) → decimal.number_of s ≡ Some n → 0 < n → n < 2 ^ 31 → number_read change (45 ∷ s) ≡ Some (neg_ℤ (pos n))
minus-read s zero h some small = absurd (omega arith)
minus-read s (suc n) h some small =
    let low : neg_ℤ (pos (2 ^ 31)) ≤ℤ negsuc n = omega (arith, ints) in
    let high : negsuc n ≤ℤ pos (2 ^ 31 - 1) = omega (arith, ints) in
    number_read-is change (45 ∷ s) (negative (negsuc n)) (minus-number s n h) ∙ change-back (negsuc n) (low, high)
