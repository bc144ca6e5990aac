-- The links of a layout as marks in rows, one row for each point.
use Rattle.std.specs.Prelude.{◌≡◌, ℕ, ◌+◌, ◌*◌, ◌<◌, Bool, false, List, length, slice_index_or}
use Rattle.rail_model.specs.Layout.{Layout}
use Rattle.mission_table.specs.Ways.{are_linked}

-- the mark of a point in the row of another, where rows have this many places; none past the end
abbrev pub mark : ℕ → List Bool → ℕ → ℕ → Bool
mark width marks a b = slice_index_or marks (a * width + b) false

-- A point is marked in the row of another exactly where a link joins the two.
abbrev pub AreMarks : Layout → List Bool → Type 0
AreMarks L marks = (a b : ℕ) → b < length L.points → mark (length L.points) marks a b ≡ are_linked L a b
