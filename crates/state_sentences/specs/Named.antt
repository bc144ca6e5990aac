-- Tables whose trains and points have names.
use Rattle.std.specs.Prelude.{◌≡◌, ℕ, ◌<◌, List, length, Option, Some, option_map}
use Rattle.rail_model.specs.Names.{Names, point_name}
use Rattle.rail_model.specs.Table.{Table, trains, point}

-- Each train and each point of the table has a name.
pub record HasNames (N : Names) (T : Table) : Type 0 where
  pub trains : length N.trains ≡ trains T
  pub points : (i k q : ℕ) → point T i k ≡ Some q → q < length N.points

-- the name of a train's point at a place, if it has a point there
abbrev pub name_at : Names → Table → ℕ → ℕ → Option (List ℕ)
name_at N T i k = option_map (point_name N) (point T i k)
