-- Worked rows: which texts name a place of a route that goes from A over M to B, and to M again.
use Rattle.std.proofs.Common.{◌≡◌, List, [], ◌∷◌, true, false, String, Some, None, codes, lit<, refl}
use Rattle.std.specs.Fmt.{digits}
use Rattle.std.specs.declared.alloc.Global.{Global}
use Rattle.plan_reading.specs.Places.{is_place, place_of}
use Rattle.plan_patterns.proofs.GivenTexts.{text_of}

-- the points, each made of some string
abbrev pub a : String Global → String Global
a s = text_of s (codes "A") (lit< tt) refl

abbrev pub b : String Global → String Global
b s = text_of s (codes "B") (lit< tt) refl

abbrev pub m : String Global → String Global
m s = text_of s (codes "M") (lit< tt) refl

abbrev pub route : String Global → List (String Global)
route s = a s ∷ m s ∷ b s ∷ m s ∷ []

-- A comes once, at the first place
pub once : (s : String Global) → is_place (codes "A") (route s) 0 ≡ true
once s = refl

-- M comes twice: without a number it names neither place
pub not_first : (s : String Global) → is_place (codes "M") (route s) 1 ≡ false
not_first s = refl

pub not_second : (s : String Global) → is_place (codes "M") (route s) 3 ≡ false
not_second s = refl

pub first : (s : String Global) → is_place (codes "M#1") (route s) 1 ≡ true
unfolding digits
first s = refl

pub second : (s : String Global) → is_place (codes "M#2") (route s) 3 ≡ true
unfolding digits
second s = refl

pub not_yet : (s : String Global) → is_place (codes "M#2") (route s) 1 ≡ false
unfolding digits
not_yet s = refl

pub leading_zero : (s : String Global) → is_place (codes "M#02") (route s) 3 ≡ false
unfolding digits
leading_zero s = refl

pub past_the_end : (s : String Global) → is_place (codes "M#2") (route s) 4 ≡ false
past_the_end s = refl

-- M comes a second time, but no third, and C doesn't come
pub comes_again : (s : String Global) → place_of (codes "M#2") (route s) ≡ Some 3
unfolding digits
comes_again s = refl

pub no_third : (s : String Global) → place_of (codes "M#3") (route s) ≡ None
unfolding digits
no_third s = refl

pub unclear : (s : String Global) → place_of (codes "M") (route s) ≡ None
unfolding digits
unclear s = refl

pub elsewhere : (s : String Global) → place_of (codes "C") (route s) ≡ None
unfolding digits
elsewhere s = refl
