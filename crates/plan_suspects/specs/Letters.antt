-- Which words differ in one letter.
use Rattle.std.specs.Prelude.{ℕ, ◌+◌, List, length, take, drop, slice_index, Bool, ◌==◌, ◌&&◌, ◌||◌, not, nat_le, nat_lt, bytes_eq}
use Rattle.std.specs.Char.{is_ascii_digit}
use Rattle.std.specs.List.{list_any}
use Rattle.rail_model.specs.Checks.{below}

-- whether two letters aren't two digits
abbrev pub is_no_count : ℕ → ℕ → Bool
is_no_count one other = not (is_ascii_digit one && is_ascii_digit other)

-- whether two words are the same but for their first letters, which aren't two digits
abbrev pub is_changed : List ℕ → List ℕ → Bool
is_changed one other =
    nat_lt 0 (length one) && nat_lt 0 (length other) && bytes_eq (drop 1 one) (drop 1 other) && is_no_count (slice_index one 0) (slice_index other 0)

-- whether two words are the same but for the order of their first two letters, which aren't two digits
abbrev pub is_swapped : List ℕ → List ℕ → Bool
is_swapped one other =
    nat_lt 1 (length one) && nat_lt 1 (length other) && bytes_eq (drop 2 one) (drop 2 other)
    && (slice_index one 0 == slice_index other 1) && (slice_index one 1 == slice_index other 0) && is_no_count (slice_index one 0) (slice_index one 1)

-- whether a word is another one with a letter more before it
abbrev pub is_longer : List ℕ → List ℕ → Bool
is_longer one other = nat_lt 0 (length one) && bytes_eq (drop 1 one) other

-- whether two words are the same but for one letter at their beginning
abbrev pub is_off_here : List ℕ → List ℕ → Bool
is_off_here one other = is_changed one other || is_swapped one other || is_longer one other || is_longer other one

-- whether two words are the same up to a place, and but for one letter there
abbrev pub is_off_at : List ℕ → List ℕ → ℕ → Bool
is_off_at one other place =
    nat_le place (length one) && nat_le place (length other) && bytes_eq (take place one) (take place other) && is_off_here (drop place one) (drop place other)

-- whether two words are the same but for one letter, somewhere
abbrev pub is_off_somewhere : List ℕ → List ℕ → Bool
is_off_somewhere one other = list_any (is_off_at one other) (below (length one + 1))

-- whether two words differ in one letter, and one of them has more than one: words of one letter have nothing in common
unfoldable pub is_one_letter_off : List ℕ → List ℕ → Bool
is_one_letter_off one other = (nat_lt 1 (length one) || nat_lt 1 (length other)) && is_off_somewhere one other
