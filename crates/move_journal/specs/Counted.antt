-- The two counts of an end line.
use Rattle.std.specs.Prelude.{◌≡◌, count_by}
use Rattle.rail_model.specs.Journal.{Journal, is_move, is_table}

-- The two counts are those of the lines.
abbrev pub CountsAreTrue : Journal → Type 0
CountsAreTrue J = (J.moves ≡ count_by is_move J.lines) × (J.tables ≡ count_by is_table J.lines)
