-- A train that may go on is told so.
use Rattle.std.proofs.Common.{◌≡◌, ℕ, List}
use Rattle.rail_model.specs.declared.types.Ask.{Ask}
use Rattle.rail_model.specs.declared.types.Ask.TheVariants.{Yes, Arrived as ArrivedAsk, Occupied as OccupiedAsk}
use Rattle.rail_model.specs.declared.types.Ask.TheVariants.{Full as FullAsk, Waits as WaitsAsk}
use Rattle.rail_model.specs.Move.{Answers}
use Rattle.rail_model.specs.Table.{Table}
use Rattle.rail_model.proofs.Asks.{told_once}
use Rattle.live_yard.specs.declared.told.Told.{Told}
use Rattle.live_yard.specs.declared.told.Told.TheVariants.{May, Arrived, Occupied, Full, Waits, Away, Leaving, Clearing}
use Rattle.live_yard.specs.Telling.{MayGo, Tells}

-- the yard's answer isn't Yes
other : (T : Table) (p r : List ℕ) (i : ℕ) (a : Ask) → MayGo T p r i → Answers T p i a → a ≡ Yes
other T p r i a may answer = told_once T p i a Yes may.moves.before answer may.moves

pub tells_may : (T : Table) (p r : List ℕ) (i : ℕ) (told : Told) → Tells T p r i told → MayGo T p r i → told ≡ May
tells_may T p r i May tells may = λ j. May
tells_may T p r i Arrived tells may = absurd (let e = other T p r i ArrivedAsk may tells in cc)
tells_may T p r i (Occupied by) tells may = absurd (let e = other T p r i (OccupiedAsk by) may tells in cc)
tells_may T p r i (Full s n) tells may = absurd (let e = other T p r i (FullAsk s n) may tells in cc)
tells_may T p r i (Waits c) tells may = absurd (let e = other T p r i (WaitsAsk c) may tells in cc)
tells_may T p r i Away tells may = absurd (tells.1 may.there)
tells_may T p r i (Leaving by) tells may = absurd (may.left by tells.2.0)
tells_may T p r i (Clearing s n) tells may = absurd (may.cleared s tells.3.0)
