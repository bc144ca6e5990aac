-- Whether one of the numbers below n is as a test says.
use Rattle.std.proofs.Common.{◌≡◌, ◌∙◌, ℕ, zero, suc, ◌<◌, Bool, true, false, ap, refl, sym, arith, inl, inr}
use Rattle.std.specs.Prelude.{◌||◌}
use Rattle.std.proofs.lemmas.Bool.{cases_eq}
use Rattle.layout_picture.specs.Areas.{some_below}

module _ (f : ℕ → Bool) where
  either_true : (a b : Bool) → a ≡ true → (a || b) ≡ true
  either_true true b e = refl
  either_true false b e = cc

  second_true : (a b : Bool) → b ≡ true → (a || b) ≡ true
  second_true true b e = refl
  second_true false b e = e

  -- one is
  pub one_is : (k n : ℕ) → k < n → f k ≡ true → some_below f n ≡ true
  one_is k zero lt e = absurd (omega (arith, lt))
  one_is k (suc n) lt e = elim (cases_eq k n) [
    | inl here ↦ second_true (some_below f n) (f n) (ap f (sym here) ∙ e)
    | inr before ↦ either_true (some_below f n) (f n) (one_is k n (omega (arith, lt, before)) e)
  ]
