-- Cells that stand row after row in one list.
use Rattle.std.specs.Prelude.{ℕ, ◌+◌, ◌*◌, ◌/◌, ◌%◌, ◌≡◌, ℤ, pos, List, length, map}
use Rattle.std.specs.List.{slice_range, range_with_len}
use Rattle.std.specs.Simd.Lanes.{zip2}
use Rattle.rail_model.specs.Table.{Table, share}
use Rattle.state_boxes.specs.declared.extremes.Extremes.{Extremes}
use Rattle.state_boxes.specs.Each.{IsEach}
use Rattle.state_boxes.specs.Extremes.{joined}

-- the cells with these least and these greatest shares
abbrev pub cells_of : List ℤ → List ℤ → List Extremes
cells_of least greatest = zip2 (λ l g. record { least = l; greatest = g }) least greatest

-- the row that two rows make together, cell by cell
abbrev pub joined_row : List Extremes → List Extremes → List Extremes
joined_row first second = zip2 joined first second

-- The first rows of a list of cells, each of this many cells.
abbrev pub rows_of : ℕ → ℕ → List Extremes → List (List Extremes)
rows_of rows size cells = map (λ row. slice_range cells (row * size) (row * size + size)) (range_with_len 0 rows)

-- The shares of train i, place by place, at each place section by section, as far as they are listed.
abbrev pub AreSingle : Table → ℕ → List ℤ → Type 0
AreSingle T i shares =
    IsEach (λ at x. x ≡ share T i (at % length T.sections) (at / length T.sections)) (length shares) (pos 0) shares
