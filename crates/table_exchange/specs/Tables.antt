-- The tables of a run, and the states of the yard that can come under them.
use Rattle.std.specs.Prelude.{◌≡◌, ℕ, ◌<◌, ◌≤◌, List, length}
use Rattle.rail_model.specs.State.{Legal}
use Rattle.rail_model.specs.Sums.{sum_below}
use Rattle.rail_model.specs.Table.{trains, place}
use Rattle.rail_model.specs.Yard.{Offer, Yard, offer, in_force}

-- One to sixteen tables, all with the same number of trains.
pub record AreTables (tables : List Offer) : Type 0 where
  pub some : 0 < length tables
  pub few : length tables ≤ 16
  pub same : (t : ℕ) → t < length tables → trains (offer tables t).table ≡ trains (offer tables 0).table

-- A legal state of the yard: the table in force has its answer, and no more moves were made than the trains' places say.
pub record Stands (tables : List Offer) (y : Yard) : Type 0 where
  pub in_range : y.table < length tables
  pub tried : y.tried < length tables
  pub answered : y.table ≤ y.tried
  pub legal : Legal (in_force tables y) y.positions
  pub moves : y.moves ≤ sum_below (place y.positions) (length y.positions)
