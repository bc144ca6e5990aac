-- A run by workers: a history that their passes made at a shared yard, and then the round robin.
use Rattle.std.specs.Prelude.{◌≡◌, ℕ, zero, suc, ◌-◌, ◌<◌, List, ◌++◌, map, All}
use Rattle.rail_model.specs.declared.types.Entry.{Entry}
use Rattle.rail_model.specs.declared.types.Line.{Line}
use Rattle.rail_model.specs.Layout.{Layout}
use Rattle.rail_model.specs.Plain.{Plain}
use Rattle.rail_model.specs.Journal.{IsRound}
use Rattle.rail_model.specs.Lines.{journal_of}
use Rattle.rail_model.specs.Yard.{Offer, control as control_number}
use Rattle.plain_yard.specs.Keeps.{Keeps}
use Rattle.zone_yard.specs.Setup.{Setup, SharedYard, state_after, IsLegalHistory}
use Rattle.zone_yard.specs.Passes.{Pass, StartsWith, entries_of}
use Rattle.zone_yard.specs.Entering.{HasRoom}
use Rattle.zone_yard.specs.Boarding.{fresh_root, boarded_pass}
use Rattle.shared_run.specs.Rounds.{Worked, Turned}
use Rattle.shared_run.specs.declared.crews.Crew.{Crew}
use Rattle.shared_run.specs.Crews.{trains_of, dealt}

-- what a yard is made with that a crew works at
abbrev pub setup : Layout → List Offer → Plain → Setup
setup layout tables opening = record { layout = layout; tables = tables; opening = opening; calls = 4294967295 }

-- a pass of a yard at which nobody has asked yet
abbrev pub fresh_pass : SharedYard → ℕ → Pass
fresh_pass yard p = boarded_pass (fresh_root yard) p

-- the passes of a worker's trains, before they ask
abbrev pub fresh_passes : SharedYard → ℕ → ℕ → List Pass
fresh_passes yard workers g = map (fresh_pass yard) (dealt (trains_of yard.setup) workers g)

-- The history begins with all that the pass has seen, and has of it the pass's own entries alone. The pass may make more, so it was never
-- told that its entries are spent.
pub record IsRecorded (H : List Entry) (pass : Pass) : Type 0 where
  pub begins : StartsWith H pass.seen
  pub entries : entries_of pass.number H ≡ pass.mine
  pub room : HasRoom pass

-- The history is legal, and its entries are those of the crew: of each worker's drivers in their rounds, and of the control in its turns.
pub record IsWorked (yard : SharedYard) (crew : Crew) (H : List Entry) : Type 0 where
  pub legal : IsLegalHistory yard.setup H
  pub drivers : ℕ → List Pass
  pub worked : (g : ℕ) → g < crew.workers → Worked crew.rounds crew.block (fresh_passes yard crew.workers g) (drivers g)
  pub recorded : (g : ℕ) → g < crew.workers → All (IsRecorded H) (drivers g)
  pub control : Pass
  pub turned : Turned crew.rounds (fresh_pass yard control_number) control
  pub told : IsRecorded H control

-- The state is the one after a history of the crew, with the lines of its journal.
pub record IsWorkedTo (S : Setup) (crew : Crew) (state : Plain) : Type 0 where
  pub yard : SharedYard
  pub made : yard.setup ≡ S
  pub history : List Entry
  pub worked : IsWorked yard crew history
  pub reached : state.yard ≡ state_after S history
  pub lines : state.lines ≡ S.opening.lines ++ journal_of S.tables S.opening.yard history
  pub keeps : Keeps S.tables state.yard state.lines

-- Lines are added to the opening state's: the journal of a history of the crew, and then those of the round robin from its state on.
pub record IsShared (S : Setup) (crew : Crew) (added : List Line) : Type 0 where
  pub yard : SharedYard
  pub made : yard.setup ≡ S
  pub history : List Entry
  pub worked : IsWorked yard crew history
  pub later : List Line
  pub round : IsRound S.tables (state_after S history) (trains_of S - 1) later
  pub all : added ≡ journal_of S.tables S.opening.yard history ++ later

-- Lines are added by a crew; by one that has no workers, those of the round robin alone.
abbrev pub IsAddedBy : Setup → Crew → List Line → Type 0
IsAddedBy S crew added = elim (crew.workers) [
  | zero ↦ IsRound S.tables S.opening.yard (trains_of S - 1) added
  | suc more ↦ IsShared S crew added
]
