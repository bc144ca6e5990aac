-- Worked rows: parts of a comparison.
use Rattle.std.proofs.Common.{◌≡◌, [], ◌∷◌, Some, None, refl}
use Rattle.std.specs.Prelude.{codes}
use Rattle.std.specs.Fmt.{digits}
use Rattle.rail_model.specs.Layout.{Layout}
use Rattle.rail_model.specs.Names.{Names}
use Rattle.run_timetable.specs.declared.rows.Row.{Row}
use Rattle.run_comparison.specs.Columns.{line_text, only_head, only_text, further_text, only_line, pair_text}
use Rattle.run_comparison.specs.Csv.{cells, row_text}
use Rattle.run_comparison.specs.Sides.{counterpart, same_train}

-- a layout, and the same one with its points in another order
abbrev corridor : Layout
corridor = record { points = record { name = codes "A"; zone = 0 } ∷ record { name = codes "B"; zone = 0 } ∷ []; links = []; zones = 1 }

abbrev turned : Layout
turned = record { points = record { name = codes "B"; zone = 0 } ∷ record { name = codes "A"; zone = 0 } ∷ []; links = []; zones = 1 }

abbrev names : Names
names = record { points = codes "A" ∷ codes "B" ∷ []; trains = codes "T0" ∷ codes "T1" ∷ [] }

abbrev other_names : Names
other_names = record { points = codes "B" ∷ codes "A" ∷ []; trains = codes "T7" ∷ codes "T0" ∷ [] }

-- trains are found by their names, whatever their numbers
same : same_train names other_names 0 ≡ Some 1
same = refl

missing : same_train names other_names 1 ≡ None
missing = refl

-- a train at B, in both runs
abbrev here : Row
here = record { train = 0; point = Some 1; arrives = Some 8; leaves = Some 12 }

abbrev there : Row
there = record { train = 1; point = Some 0; arrives = Some 11; leaves = Some 13 }

-- it arrives 3 ticks later in the second run, and waits 2 ticks less
later_row : row_text corridor names here (counterpart corridor turned here (Some there)) ≡ codes "T0,B,8,11,3,4,2,-2\n"
unfolding digits row_text cells
later_row = refl

-- it arrives 3 ticks earlier, and waits 2 ticks more
earlier_row : row_text turned other_names there (counterpart turned corridor there (Some here)) ≡ codes "T0,B,11,8,-3,2,4,2\n"
unfolding digits row_text cells
earlier_row = refl

-- the points have one number, but not one name
elsewhere : row_text corridor names here (counterpart corridor corridor here (Some there)) ≡ codes "T0,B,8,,,4,,\n"
unfolding digits row_text cells
elsewhere = refl

-- the other train has no such row
alone : row_text corridor names here (counterpart corridor turned here None) ≡ codes "T0,B,8,,,4,,\n"
unfolding digits row_text cells
alone = refl

-- a line of columns: the train ends 3 ticks later, and waits 2 ticks less
line : line_text 5 (codes "T0") (record { ends = 8; waits = 4 }) (Some (record { ends = 11; waits = 2 }))
    ≡ codes "T0        8    11     +3      4     2      -2\n"
unfolding digits line_text pair_text
line = refl

-- the second run has no train of that name
lone_line : line_text 5 (codes "T1") (record { ends = 8; waits = 4 }) None ≡ codes "T1        8     -      -      4     -       -\n"
unfolding digits line_text pair_text
lone_line = refl

-- trains of only the second run
only : only_text other_names (0 ∷ 1 ∷ []) ≡ codes "only in the second run: T7, T0\n"
unfolding only_head only_line further_text
only = refl
