-- The trains of a run with reports, as they are looked at.
use Rattle.std.specs.Prelude.{◌≡◌, ℕ, ◌<◌, List, length, slice_index_or}
use Rattle.rail_model.specs.State.{Legal}
use Rattle.rail_model.specs.Table.{Table, IsTable, trains}
use Rattle.live_yard.specs.declared.told.Told.{Told}
use Rattle.live_yard.specs.declared.told.Told.TheVariants.{May}
use Rattle.live_yard.specs.Telling.{Reports, Tells}

-- The table in force, the places that the trains were granted last, and those that they have reported.
pub record Seen : Type 0 where
  pub table : Table
  pub positions : List ℕ
  pub reported : List ℕ

-- A legal state, with reports that are behind the trains.
pub record IsSeen (v : Seen) : Type 0 where
  pub formed : IsTable v.table
  pub legal : Legal v.table v.positions
  pub reports : Reports v.positions v.reported

-- What train i is told that asks for its next place.
abbrev pub IsTold : Seen → ℕ → Told → Type 0
IsTold v i told = Tells v.table v.positions v.reported i told

-- what train i is told by a list of what all are told
abbrev pub told_at : List Told → ℕ → Told
told_at tolds i = slice_index_or tolds i May

-- What each train is told.
pub record AreTold (v : Seen) (tolds : List Told) : Type 0 where
  pub one_each : length tolds ≡ trains v.table
  pub told : (i : ℕ) → i < trains v.table → IsTold v i (told_at tolds i)
