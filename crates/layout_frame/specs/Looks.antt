-- How the areas of sections look: a colour, and stripes.
use Rattle.std.specs.Prelude.{◌≡◌, ℕ, ◌+◌, ◌/◌, ◌%◌, ◌<◌, List, [], ◌∷◌, codes, slice_index_or}

-- the colours of areas
abbrev pub colours : List (List ℕ)
colours =
    codes "#e8b923" ∷ codes "#5aa9e6" ∷ codes "#63b76c" ∷ codes "#d66ba0" ∷ codes "#8f7be0" ∷ codes "#b08a5b" ∷ codes "#35b0ab" ∷ codes "#8d99a6" ∷ []

-- the stripes of areas, as the lengths of stripes and gaps: none for a plain area
abbrev pub patterns : List (List ℕ)
patterns = [] ∷ codes "2 5" ∷ codes "9 6" ∷ codes "2 2 2 8" ∷ []

-- the number of the colour of section s
abbrev pub colour_number : ℕ → ℕ
colour_number s = s % 8

-- the number of the stripes of section s: those of the next section, and those of the section eight later, are others
abbrev pub pattern_number : ℕ → ℕ
pattern_number s = (s % 4 + s / 8) % 4

-- the colour of section s
abbrev pub colour_of : ℕ → List ℕ
colour_of s = slice_index_or colours (colour_number s) []

-- the stripes of section s
abbrev pub stripes_of : ℕ → List ℕ
stripes_of s = slice_index_or patterns (pattern_number s) []

-- Two of the first 32 sections that have the same colour and the same stripes are one.
abbrev pub AreasLookDifferent : Type 0
AreasLookDifferent = (s t : ℕ) → s < 32 → t < 32 → colour_of s ≡ colour_of t → stripes_of s ≡ stripes_of t → s ≡ t
