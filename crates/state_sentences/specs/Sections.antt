-- What sections are called.
use Rattle.std.specs.Prelude.{ℕ, List, [], ◌∷◌, ◌++◌, codes, decimal, encode_utf8_all, if◌then◌else◌, map, slice_get, String, string_bytes, take}
use Rattle.std.specs.Char.{is_control}
use Rattle.std.specs.Option.{option_map_or}
use Rattle.std.specs.Str.{chars}
use Rattle.std.specs.declared.alloc.Global.{Global}

-- a character as names are written: a question mark for one that doesn't print
abbrev pub printed : ℕ → ℕ
printed c = if is_control c then 63 else c

-- a name as it is written: at most 40 characters of it
abbrev pub shown : List ℕ → List ℕ
shown name = encode_utf8_all (map printed (take 40 (chars name)))

-- the words of a section: its name in quotes, or its number, if its name is empty
abbrev pub called_words : ℕ → List ℕ → List ℕ
called_words s [] = codes "section " ++ decimal s
called_words s (b ∷ bs) = codes "section \"" ++ shown (b ∷ bs) ++ codes "\""

-- the name of a section; empty, if there is none
abbrev pub name_among : List (String Global) → ℕ → List ℕ
name_among names s = option_map_or string_bytes (slice_get names s) []

-- the words of a section, of the sections that have these names
abbrev pub section_words : List (String Global) → ℕ → List ℕ
section_words names s = called_words s (name_among names s)
