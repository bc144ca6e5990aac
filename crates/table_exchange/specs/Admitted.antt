-- The answer to the control where a table is due.
use Rattle.std.specs.Prelude.{Result, Ok, Err, List, ℕ}
use Rattle.rail_model.specs.declared.types.Tried.{Tried}
use Rattle.rail_model.specs.declared.types.Tried.TheVariants.{Exchanged, Differs, Over}
use Rattle.rail_model.specs.Exchange.{DiffersAt}
use Rattle.rail_model.specs.Move.{IsFirst}
use Rattle.rail_model.specs.Table.{Table}
use Rattle.table_exchange.specs.declared.exchange.NotNow.{NotNow}
use Rattle.table_exchange.specs.declared.exchange.NotNow.TheVariants.{Differs as DiffersNow, Over as OverNow}

-- The first train that has passed a place at which the tables differ, and its first such place.
abbrev pub IsDifference : Table → Table → List ℕ → ℕ → ℕ → Type 0
IsDifference T new p i k = IsFirst (λ j. (l : ℕ) × DiffersAt T new p j l) i × IsFirst (DiffersAt T new p i) k

-- the answer to the control
abbrev pub told : Result (Unit {0}) NotNow → Tried
told (Ok u) = Exchanged
told (Err (DiffersNow i k)) = Differs i k
told (Err (OverNow s n)) = Over s n
