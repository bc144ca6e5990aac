-- The words on places that are no legal state of a table: why they are none.
use Rattle.std.specs.Prelude.{◌≡◌, ◌==◌, ◌++◌, ℕ, List, codes, decimal, if◌then◌else◌, String}
use Rattle.std.specs.declared.alloc.Global.{Global}
use Rattle.rail_model.specs.Names.{Names, point_name, train_name}
use Rattle.rail_model.specs.Table.{Table, trains, last, place}
use Rattle.legal_state.specs.declared.judges.Illegal.{Illegal}
use Rattle.legal_state.specs.declared.judges.Illegal.TheVariants.{Length, Range, Clash, Over}
use Rattle.state_sentences.specs.Explanation.{joined_below}
use Rattle.state_sentences.specs.Sections.{section_words}
use Rattle.refusal_meanings.specs.HeldPoints.{held_points, points_words}

-- a train of a list, with a comma before each but the first
abbrev pub listed_words : Names → ℕ → List ℕ
listed_words N i = if i == 0 then train_name N i else codes ", " ++ train_name N i

-- that n places were given, how many are wanted, and for which trains
abbrev pub length_words : Names → Table → ℕ → List ℕ
length_words N T n =
    decimal n ++ codes " given, " ++ decimal (trains T) ++ codes " wanted, one for each of " ++ joined_below (listed_words N) (trains T)

-- that train i has no such place, and which one is its last
abbrev pub range_words : Names → Table → List ℕ → ℕ → List ℕ
range_words N T p i =
    train_name N i ++ codes " has no place " ++ decimal (place p i) ++ codes ", its last place is " ++ decimal (last T i)

-- that trains i and k are both at point q
abbrev pub clash_words : Names → ℕ → ℕ → ℕ → List ℕ
clash_words N i k q = train_name N i ++ codes " and " ++ train_name N k ++ codes " are both at " ++ point_name N q

-- that n of section s is taken, at which points trains have shares of it, and that its limit is l
abbrev pub over_words : Names → List (String Global) → Table → ℕ → ℕ → ℕ → List ℕ
over_words N S T s n l =
    codes "they take " ++ decimal n ++ codes " of " ++ section_words S s ++ points_words N (held_points T s (trains T)) ++ codes ", whose limit is " ++ decimal l

-- why the places p are no legal state of the table
abbrev pub cause_words : Names → List (String Global) → Table → List ℕ → Illegal → List ℕ
cause_words N S T p (Length n) = length_words N T n
cause_words N S T p (Range i) = range_words N T p i
cause_words N S T p (Clash i k q) = clash_words N i k q
cause_words N S T p (Over s n l) = over_words N S T s n l

-- The text tells by names of trains, points and sections that the places p are no legal state of the table T, whose number is t, and why.
abbrev pub TellsIllegal : Names → List (String Global) → Table → List ℕ → ℕ → Illegal → List ℕ → Type 0
TellsIllegal N S T p t cause text =
    text ≡ codes "These places are no legal state of table " ++ decimal t ++ codes ": " ++ cause_words N S T p cause ++ codes ".\n"
