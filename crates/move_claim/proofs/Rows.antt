-- Worked rows: what next steps need, the answers to them, and what a grant writes, on small tables.
use Rattle.std.proofs.Common.{◌≡◌, ℕ, zero, suc, List, [], ◌∷◌, pos, negsuc, true, false, refl}
use Rattle.rail_model.specs.declared.types.Ask.TheVariants.{Arrived, Occupied, Full, Waits}
use Rattle.rail_model.specs.Layout.{Layout, Point as LayoutPoint}
use Rattle.rail_model.specs.Table.{Table}
use Rattle.rail_model.specs.declared.types.BlockAsk.TheVariants.{Yes, First, NotWhole}
use Rattle.move_claim.specs.declared.cells.Cell.{Cell}
use Rattle.move_claim.specs.declared.cells.Cell.TheVariants.{Point, Count, Position, Table as TableCell}
use Rattle.move_claim.specs.Cells.{number_in}
use Rattle.move_claim.specs.Claims.{claim_of, zones_of, cells_of}
use Rattle.move_claim.specs.Deciding.{decided, effects}

abbrev in_zones : List ℕ → List LayoutPoint
in_zones [] = []
in_zones (z ∷ zs) = record { name = []; zone = z } ∷ in_zones zs

-- A 0, M 1, N 2, B 3, in the zones 1, 2, 3, 4 of five
abbrev four_points : Layout
four_points = record { points = in_zones (1 ∷ 2 ∷ 3 ∷ 4 ∷ []); links = []; zones = 5 }

-- a long train from A to B, which weighs 3 between M and N in a section for 4
abbrev along : Table
along = record {
  missions = record { points = 0 ∷ 1 ∷ 2 ∷ 3 ∷ []; exits = true } ∷ [];
  sections = record { limit = 4; changes = (pos 0 ∷ pos 3 ∷ pos 0 ∷ negsuc 2 ∷ pos 0 ∷ []) ∷ [] } ∷ [];
  connections = [];
}

-- blocks of one to four steps
zones_of_1 : zones_of four_points along (claim_of along 0 0 1) ≡ 0 ∷ 1 ∷ 2 ∷ []
zones_of_1 = refl

cells_of_1 : cells_of along (claim_of along 0 0 1) ≡ TableCell ∷ Point 1 ∷ Count 0 ∷ []
cells_of_1 = refl

zones_of_2 : zones_of four_points along (claim_of along 0 0 2) ≡ 0 ∷ 1 ∷ 2 ∷ 3 ∷ []
zones_of_2 = refl

cells_of_2 : cells_of along (claim_of along 0 0 2) ≡ TableCell ∷ Point 1 ∷ Point 2 ∷ Count 0 ∷ []
cells_of_2 = refl

zones_of_3 : zones_of four_points along (claim_of along 0 0 3) ≡ 0 ∷ 1 ∷ 2 ∷ 3 ∷ 4 ∷ []
zones_of_3 = refl

cells_of_3 : cells_of along (claim_of along 0 0 3) ≡ TableCell ∷ Point 1 ∷ Point 2 ∷ Point 3 ∷ Count 0 ∷ []
cells_of_3 = refl

-- the fourth step leaves the layout
cells_of_4 : cells_of along (claim_of along 0 0 4) ≡ TableCell ∷ Point 1 ∷ Point 2 ∷ Point 3 ∷ Count 0 ∷ []
cells_of_4 = refl

-- a step that changes no section needs only the two points' zones
zones_inside : zones_of four_points along (claim_of along 0 1 1) ≡ 2 ∷ 3 ∷ []
zones_inside = refl

cells_inside : cells_of along (claim_of along 0 1 1) ≡ TableCell ∷ Point 2 ∷ []
cells_inside = refl

-- a block is at most the steps that remain
steps_left : claim_of along 0 2 4 ≡ claim_of along 0 2 2
steps_left = refl

-- at the exit there is no next point
zones_at_exit : zones_of four_points along (claim_of along 0 3 1) ≡ 4 ∷ []
zones_at_exit = refl

cells_at_exit : cells_of along (claim_of along 0 3 1) ≡ TableCell ∷ []
cells_at_exit = refl

-- and after it no point at all
zones_after_exit : zones_of four_points along (claim_of along 0 4 1) ≡ 0 ∷ []
zones_after_exit = refl

cells_after_exit : cells_of along (claim_of along 0 4 1) ≡ TableCell ∷ []
cells_after_exit = refl

-- all is free
abbrev empty_line : Cell → ℕ
empty_line (Point zero) = 1
empty_line _ = 0

-- another train, number 1, is at N
abbrev taken_at_n : Cell → ℕ
taken_at_n (Point zero) = 1
taken_at_n (Point (suc (suc zero))) = 2
taken_at_n _ = 0

-- the section counts 2 already
abbrev two_inside : Cell → ℕ
two_inside (Point zero) = 1
two_inside (Count s) = 2
two_inside _ = 0

whole_way : decided along (claim_of along 0 0 4) empty_line ≡ Yes
whole_way = refl

stops_before_n : decided along (claim_of along 0 0 4) taken_at_n ≡ NotWhole 1 (Occupied 1)
stops_before_n = refl

full_at_once : decided along (claim_of along 0 0 4) two_inside ≡ First (Full 0 2)
full_at_once = refl

arrived_after_exit : decided along (claim_of along 0 4 1) empty_line ≡ First Arrived
arrived_after_exit = refl

-- what grants write: a step into the section, a step out of the layout, the whole way
written_by_1 : effects along (claim_of along 0 0 1) empty_line ≡ (Point 0, 0) ∷ (Point 1, 1) ∷ (Position 0, 1) ∷ (Count 0, 3) ∷ []
written_by_1 = refl

written_at_exit : effects along (claim_of along 0 3 1) empty_line ≡ (Point 3, 0) ∷ (Position 0, 4) ∷ []
written_at_exit = refl

written_by_4 : effects along (claim_of along 0 0 4) empty_line
    ≡ (Point 0, 0) ∷ (Point 1, 0) ∷ (Point 2, 0) ∷ (Point 3, 0) ∷ (Position 0, 4) ∷ (Count 0, 0) ∷ []
written_by_4 = refl

-- from A to M and back: A is a next point, too, and is the train's in the end
abbrev there_and_back : Table
there_and_back = record {
  missions = record { points = 0 ∷ 1 ∷ 0 ∷ []; exits = false } ∷ [];
  sections = [];
  connections = [];
}

cells_back : cells_of there_and_back (claim_of there_and_back 0 0 2) ≡ TableCell ∷ Point 1 ∷ Point 0 ∷ []
cells_back = refl

-- its own number doesn't stop it
asked_back : decided there_and_back (claim_of there_and_back 0 0 2) empty_line ≡ Yes
asked_back = refl

written_back : effects there_and_back (claim_of there_and_back 0 0 2) empty_line ≡ (Point 0, 1) ∷ (Point 1, 0) ∷ (Position 0, 2) ∷ []
written_back = refl

-- T0 may leave M only when T1 has reached B
abbrev waiting : Table
waiting = record {
  missions = record { points = 0 ∷ 1 ∷ 2 ∷ []; exits = false } ∷ record { points = 3 ∷ 2 ∷ 3 ∷ []; exits = false } ∷ [];
  sections = [];
  connections = record { train = 0; place = 1; other = 1; reached = 2 } ∷ [];
}

-- before the place of the connection nothing of it is needed
zones_before : zones_of four_points waiting (claim_of waiting 0 0 1) ≡ 1 ∷ 2 ∷ []
zones_before = refl

-- at it, and for a block over it, all zones and the other train's position
zones_at_connection : zones_of four_points waiting (claim_of waiting 0 1 1) ≡ 0 ∷ 1 ∷ 2 ∷ 3 ∷ 4 ∷ []
zones_at_connection = refl

cells_at_connection : cells_of waiting (claim_of waiting 0 1 1) ≡ TableCell ∷ Point 2 ∷ Position 1 ∷ []
cells_at_connection = refl

zones_over_connection : zones_of four_points waiting (claim_of waiting 0 0 2) ≡ 0 ∷ 1 ∷ 2 ∷ 3 ∷ 4 ∷ []
zones_over_connection = refl

cells_over_connection : cells_of waiting (claim_of waiting 0 0 2) ≡ TableCell ∷ Point 1 ∷ Point 2 ∷ Position 1 ∷ []
cells_over_connection = refl

waits : decided waiting (claim_of waiting 0 1 1) (number_in ((TableCell, 0) ∷ (Point 2, 0) ∷ (Position 1, 0) ∷ [])) ≡ First (Waits 0)
waits = refl

waits_in_a_block : decided waiting (claim_of waiting 0 0 2) (number_in ((TableCell, 0) ∷ (Point 1, 0) ∷ (Point 2, 0) ∷ (Position 1, 1) ∷ [])) ≡ NotWhole 1 (Waits 0)
waits_in_a_block = refl

goes : decided waiting (claim_of waiting 0 1 1) (number_in ((TableCell, 0) ∷ (Point 2, 0) ∷ (Position 1, 2) ∷ [])) ≡ Yes
goes = refl
