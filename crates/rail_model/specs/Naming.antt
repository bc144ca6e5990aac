-- Tests of names: whether a text is a name, and where a name is repeated.
use Rattle.std.specs.Prelude.{◌≡◌, ℕ, ◌<◌, Bool, List, [], length, take, Option, option_map, position, slice_index_or, bytes_eq, nat_lt, nat_le, ◌==◌, ◌&&◌, ◌||◌}
use Rattle.std.specs.List.{list_all}
use Rattle.rail_model.specs.Turns.{first_below}

-- whether a byte is a digit, a letter or _
abbrev pub is_name_byte : ℕ → Bool
is_name_byte c = (nat_le 48 c && nat_le c 57) || ((nat_le 65 c && nat_le c 90) || ((nat_le 97 c && nat_le c 122) || (c == 95)))

-- whether a text is a name
abbrev pub is_name : List ℕ → Bool
is_name text = nat_lt 0 (length text) && nat_le (length text) 16 && list_all is_name_byte text

-- the pair of the first earlier place with the name of place `second`, if there is one, and `second` itself
abbrev pub double_at : List (List ℕ) → ℕ → Option (ℕ × ℕ)
double_at names second =
    option_map (λ first. (first, second)) (position (bytes_eq (slice_index_or names second [])) (take second names))

-- the least place whose name an earlier place has, as the second of a pair with that earlier place
abbrev pub first_double : List (List ℕ) → Option (ℕ × ℕ)
first_double names = first_below (length names) (double_at names)

-- The place `second` has the name of the place `first` before it, and the names before `second` differ.
pub record IsFirstDouble (names : List (List ℕ)) (first second : ℕ) : Type 0 where
  pub within : second < length names
  pub before : first < second
  pub same : slice_index_or names first [] ≡ slice_index_or names second []
  pub apart : (i j : ℕ) → i < j → j < second → slice_index_or names i [] ≡ slice_index_or names j [] → ⊥
