-- How a whole number up to 4,294,967,295 is written: decimal digits, with no sign and no leading zero.
use Rattle.std.specs.Prelude.{ℕ, ◌==◌, ◌^◌, ◌&&◌, not, List, length, slice_index, Bool, nat_lt, Option, Some, None, if◌then◌else◌}
use Rattle.std.specs.Str.{all_ascii_digits}
use Rattle.std.specs.Str.Parse.{digits_value}

-- a zero comes before another byte
abbrev pub has_leading_zero : List ℕ → Bool
has_leading_zero word = slice_index word 0 == 48 && nat_lt 1 (length word)

-- one digit or more and nothing else, with no leading zero
abbrev pub is_decimal : List ℕ → Bool
is_decimal word = all_ascii_digits word && nat_lt 0 (length word) && not (has_leading_zero word)

-- the number that a word is, where it is the text of one below 2 ^ 32
unfoldable pub number_of : List ℕ → Option ℕ
number_of word =
    if is_decimal word && nat_lt (digits_value 10 word) (2 ^ 32) then Some (digits_value 10 word) else None
