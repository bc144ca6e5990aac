-- Rows of the definition, computed.
use Rattle.std.proofs.Common.{◌≡◌, ◌∷◌, [], codes, Some, None, refl}
use Rattle.decimal_number.specs.Decimal.{has_leading_zero, is_decimal, number_of}
use Rattle.std.specs.Prelude.{true, false}

leading_zero : has_leading_zero (codes "07") ≡ true
leading_zero = refl

only_zero : has_leading_zero (codes "0") ≡ false
only_zero = refl

digits : is_decimal (codes "4294967296") ≡ true
digits = refl

blank : is_decimal (codes " 7") ≡ false
blank = refl

zero : number_of (codes "0") ≡ Some 0
unfolding number_of
zero = refl

seven : number_of (codes "7") ≡ Some 7
unfolding number_of
seven = refl

greatest : number_of (codes "4294967295") ≡ Some 4294967295
unfolding number_of
greatest = refl

too_great : number_of (codes "4294967296") ≡ None
unfolding number_of
too_great = refl

empty : number_of [] ≡ None
unfolding number_of
empty = refl

padded : number_of (codes "007") ≡ None
unfolding number_of
padded = refl

plus : number_of (codes "+7") ≡ None
unfolding number_of
plus = refl

minus : number_of (codes "-7") ≡ None
unfolding number_of
minus = refl

part : number_of (codes "7a") ≡ None
unfolding number_of
part = refl

no_text : number_of (255 ∷ []) ≡ None
unfolding number_of
no_text = refl
