-- Trains that have not arrived.
use Rattle.std.specs.Prelude.{◌≢◌, ℕ, ◌<◌, List}
use Rattle.rail_model.specs.Table.{Table, trains, last, place}

-- Train i is not at its last place.
abbrev pub IsUnfinished : Table → List ℕ → ℕ → Type 0
IsUnfinished T p i = (i < trains T) × (place p i ≢ last T i)
