-- Groups of passes that have worked, and leave.
use Rattle.std.specs.Prelude.{◌≡◌, ℕ, ◌+◌, ◌<◌, List, length, map, All}
use Rattle.rail_model.specs.Yard.{control as control_number}
use Rattle.zone_yard.specs.Setup.{SharedYard, most_passes}
use Rattle.zone_yard.specs.Passes.{Pass, Root, Receipt, StartsWith, done_of}
use Rattle.zone_yard.specs.Entering.{HasRoom}
use Rattle.shared_run.specs.Rounds.{Worked, Turned}
use Rattle.shared_run.specs.declared.crews.Crew.{Crew}
use Rattle.shared_run.specs.Boarding.{onto}
use Rattle.shared_run.specs.Shared.{fresh_pass, fresh_passes}

-- a pass's number and its entries
abbrev pub entries_with : Pass → ℕ × List Receipt
entries_with pass = (pass.number, pass.mine)

-- The root has seen all that the pass has seen.
abbrev pub HasSeen : Root → Pass → Type 0
HasSeen root pass = StartsWith root.seen pass.seen

-- The passes left to the root, which has the entries of each, and has seen all that it saw before and all that each of them has seen.
pub record HaveLeft (old : Root) (passes : List Pass) (new : Root) : Type 0 where
  pub own : StartsWith new.seen old.seen
  pub theirs : All (HasSeen new) passes
  pub out : new.out + length passes ≡ old.out
  pub done : new.done ≡ onto (map entries_with passes) old.done
  pub yard : new.yard ≡ old.yard

-- The root has the entries of the pass that left, which may have made more, and has seen all that the pass has seen.
pub record HasLeft (root : Root) (pass : Pass) : Type 0 where
  pub seen : HasSeen root pass
  pub low : pass.number < most_passes
  pub entries : done_of pass.number root.done ≡ pass.mine
  pub room : HasRoom pass

-- The crew has worked at the yard, and all have left.
pub record HasWorked (yard : SharedYard) (crew : Crew) (root : Root) : Type 0 where
  pub ours : root.yard ≡ yard
  pub nobody : root.out ≡ 0
  pub drivers : ℕ → List Pass
  pub worked : (g : ℕ) → g < crew.workers → Worked crew.rounds crew.block (fresh_passes yard crew.workers g) (drivers g)
  pub done : (g : ℕ) → g < crew.workers → All (HasLeft root) (drivers g)
  pub control : Pass
  pub turned : Turned crew.rounds (fresh_pass yard control_number) control
  pub told : HasLeft root control
