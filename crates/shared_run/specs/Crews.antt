-- Who runs the trains, and which trains each worker has.
use Rattle.std.specs.Prelude.{ℕ, ◌≤◌, ◌%◌, ◌==◌, List, filter}
use Rattle.rail_model.specs.Checks.{below}
use Rattle.rail_model.specs.Table.{trains}
use Rattle.rail_model.specs.Yard.{offer}
use Rattle.zone_yard.specs.Setup.{Setup}
use Rattle.shared_run.specs.declared.crews.Crew.{Crew}

abbrev pub crew_of : ℕ → ℕ → ℕ → Crew
crew_of workers rounds block = record { workers = workers; rounds = rounds; block = block }

-- The crew has workers, and its numbers are in range.
pub record IsCrew (crew : Crew) : Type 0 where
  pub some : 1 ≤ crew.workers
  pub few : crew.workers ≤ 16
  pub rounds : crew.rounds ≤ 1000000
  pub asks : 1 ≤ crew.block
  pub block : crew.block ≤ 4

-- how many trains there are
abbrev pub trains_of : Setup → ℕ
trains_of S = trains (offer S.tables 0).table

-- the trains of one worker, where the first n are dealt to this many in turn
abbrev pub dealt : ℕ → ℕ → ℕ → List ℕ
dealt n workers g = filter (λ i. i % workers == g) (below n)
