-- No two of the first 32 sections look the same: all pairs are tried.
use Rattle.std.proofs.Common.{◌≡◌, ◌∙◌, ℕ, zero, suc, ◌<◌, ◌==◌, List, Bool, true, false, get_or, refl, ap, ap₂, sym, subst, arith, inl, inr}
use Rattle.std.specs.Prelude.{◌&&◌, ◌||◌, not}
use Rattle.std.proofs.lemmas.Bool.{cases_eq, eq-eqb, eqb-true}
use Rattle.layout_frame.specs.Looks.{AreasLookDifferent, colour_of, stripes_of}

-- the letter by which colours differ, and stripes too
letter : List ℕ → ℕ
letter words = get_or words 2 0

-- whether two sections have the same letters
same : ℕ → ℕ → Bool
same s t = letter (colour_of s) == letter (colour_of t) && letter (stripes_of s) == letter (stripes_of t)

-- whether two sections have other letters, or are one
apart : ℕ → ℕ → Bool
apart s t = not (same s t) || s == t

-- whether f holds of all numbers below n
all : (ℕ → Bool) → ℕ → Bool
all f zero = true
all f (suc n) = all f n && f n

all_pairs : all (λ s. all (apart s) 32) 32 ≡ true
unfolding all apart same letter
all_pairs = refl

first_true : (a b : Bool) → (a && b) ≡ true → a ≡ true
first_true true b e = refl
first_true false b e = e

second_true : (a b : Bool) → (a && b) ≡ true → b ≡ true
second_true true b e = e
second_true false b e = cc

-- of one of the numbers, then
at : (f : ℕ → Bool) (n k : ℕ) → k < n → all f n ≡ true → f k ≡ true
unfolding all
at f zero k lt e = absurd (omega (arith, lt))
at f (suc n) k lt e = elim (cases_eq k n) [
  | inl here ↦ ap f here ∙ second_true (all f n) (f n) e
  | inr before ↦ at f n k (omega (arith, lt, before)) (first_true (all f n) (f n) e)
]

or_true : (a b : Bool) → a ≡ true → (not a || b) ≡ true → b ≡ true
or_true true b is e = e
or_true false b is e = cc

both_true : (a b : Bool) → a ≡ true → b ≡ true → (a && b) ≡ true
both_true true b is e = e
both_true false b is e = is

pub look_different : AreasLookDifferent
unfolding same letter apart
look_different s t s_below t_below colour stripes =
    let pair : apart s t ≡ true = at (apart s) 32 t t_below (at (λ k. all (apart k) 32) 32 s s_below all_pairs) in
    let alike : same s t ≡ true = both_true _ _ (eq-eqb _ _ (ap letter colour)) (eq-eqb _ _ (ap letter stripes)) in
    eqb-true s t (or_true (same s t) (s == t) alike pair)
