-- What a simulation reports, and how late its last move can be.
use Rattle.std.specs.Prelude.{◌≡◌, ℕ, ◌-◌, ◌*◌, ◌<◌, ◌≤◌, List, [], ◌++◌, length, replicate, slice_index_or}
use Rattle.rail_model.specs.declared.types.Line.{Line}
use Rattle.rail_model.specs.Journal.{after_lines}
use Rattle.rail_model.specs.Table.{trains, last}
use Rattle.rail_model.specs.Times.{AreTimes, time}
use Rattle.rail_model.specs.Yard.{Offer, Yard, offer, in_force}
use Rattle.train_sim.specs.Timed.{Stamped, IsTimed, starting, timed_lines, lines_of, ticks_of, last_tick_or}

-- One time of 1 to 1,000 for each table, train and step.
pub record HaveTimes (tables : List Offer) (times : List (List (List ℕ))) : Type 0 where
  pub one_each : length times ≡ length tables
  pub each : (t : ℕ) → t < length tables → AreTimes (offer tables t).table (slice_index_or times t [])

-- Under no table a step takes more than w ticks.
abbrev pub TakeAtMost : List Offer → List (List (List ℕ)) → ℕ → Type 0
TakeAtMost tables times w =
    (t i k : ℕ) → t < length tables → i < trains (offer tables t).table → k < last (offer tables t).table i → time times t i k ≤ w

-- What is reported of a yard with some lines: the timed journal's lines and ticks after them, the tick of its last
-- move, or 0, and the yard at its end. Lines from before have tick 0.
pub record Simulates (tables : List Offer) (times : List (List (List ℕ))) (y : Yard) (earlier lines : List Line) (ticks : List ℕ) (last_tick : ℕ) (end : Yard) : Type 0 where
  pub entries : List Stamped
  pub timed : IsTimed tables times (starting y (trains (in_force tables y))) entries
  pub lines_are : lines ≡ earlier ++ lines_of (timed_lines tables y entries)
  pub ticks_are : ticks ≡ replicate (length earlier) 0 ++ ticks_of (timed_lines tables y entries)
  pub last_is : last_tick ≡ last_tick_or 0 (timed_lines tables y entries)
  pub end_is : end ≡ after_lines y (lines_of (timed_lines tables y entries))

-- With m moves and no step longer than w, the last move is made at tick (m - 1) * w at most.
abbrev pub IsSoon : List Offer → List (List (List ℕ)) → ℕ → ℕ → Type 0
IsSoon tables times m last_tick = (w : ℕ) → TakeAtMost tables times w → last_tick ≤ (m - 1) * w
