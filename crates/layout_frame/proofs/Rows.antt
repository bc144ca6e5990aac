-- Worked rows: the words of a legend.
use Rattle.std.proofs.Common.{◌≡◌, ◌∷◌, [], refl}
use Rattle.std.specs.Prelude.{codes}
use Rattle.std.specs.Fmt.{digits}
use Rattle.rail_model.specs.Table.{Table}
use Rattle.layout_frame.specs.Legend.{number_before, section_entries}

-- a section that has a limit of 1, and one that has a limit of 2
abbrev two : Table
two = record { missions = []; sections = record { limit = 1; changes = [] } ∷ record { limit = 2; changes = [] } ∷ []; connections = [] }

-- sections without names have their numbers alone
unnamed_row : section_entries [] two ≡ [] ∷ codes "section 0, limit 1" ∷ [] ∷ codes "section 1, limit 2" ∷ []
unfolding digits
unnamed_row = refl

-- one with a name has its number in front, as it stands in the picture
number_row : number_before 3 (codes "corridor") ≡ codes "3: "
unfolding digits
number_row = refl

no_number_row : number_before 3 [] ≡ []
no_number_row = refl
