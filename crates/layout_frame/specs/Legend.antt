-- The words of a legend.
use Rattle.std.specs.Prelude.{◌≡◌, ℕ, List, [], ◌∷◌, ◌++◌, codes, decimal, flat_map, length, String}
use Rattle.std.specs.declared.alloc.Global.{Global}
use Rattle.rail_model.specs.Checks.{below}
use Rattle.rail_model.specs.Table.{Table, limit}
use Rattle.state_sentences.specs.Sections.{name_among, section_words}

-- the number of a section in front of its name, if it has one
abbrev pub number_before : ℕ → List ℕ → List ℕ
number_before s [] = []
number_before s (b ∷ bs) = decimal s ++ codes ": "

-- the words of section s: what it is called, of the sections that have these names, and its limit
abbrev pub entry_words : List (String Global) → Table → ℕ → List ℕ
entry_words names T s = number_before s (name_among names s) ++ section_words names s ++ codes ", limit " ++ decimal (limit T s)

-- the words of all sections, in order, each behind a mark that has none
abbrev pub section_entries : List (String Global) → Table → List (List ℕ)
section_entries names T = flat_map (λ s. [] ∷ entry_words names T s ∷ []) (below (length T.sections))

-- Words are added behind others.
abbrev pub Extends : List (List ℕ) → List (List ℕ) → Type 0
Extends before after = (added : List (List ℕ)) × (after ≡ before ++ added)

-- A legend is added behind other words: entries of trains, then those of the sections, then those of other trains, and shapes without words.
pub record AddsLegend (names : List (String Global)) (T : Table) (before after : List (List ℕ)) : Type 0 where
  pub first : List (List ℕ)
  pub last : List (List ℕ)
  pub added : after ≡ before ++ first ++ section_entries names T ++ last
