-- The ticks that a simulation keeps, and what leads from one state of it to another.
use Rattle.std.specs.Prelude.{◌≡◌, ◌⊎◌, ℕ, ◌+◌, ◌*◌, ◌<◌, ◌≤◌, max, nat_lt, if◌then◌else◌, List, [], ◌∷◌, ◌++◌, length, replicate, slice_index, slice_set, Option, Some, None}
use Rattle.rail_model.specs.declared.types.Line.{Line}
use Rattle.rail_model.specs.Journal.{after_lines}
use Rattle.rail_model.specs.Move.{Move, advance}
use Rattle.rail_model.specs.Table.{Table, trains}
use Rattle.rail_model.specs.Yard.{Offer, Yard, offer}
use Rattle.train_sim.specs.Timed.{Clock, Stamped, IsTimed, timed_lines, lines_of, ticks_of, last_tick_or}

-- When each train asks next, the tick of the last move, or 0, and one tick per line.
pub record Watched : Type 0 where
  pub due : List ℕ
  pub last : ℕ
  pub ticks : List ℕ

-- at the beginning, with a number of lines from before
abbrev pub begun : ℕ → ℕ → Watched
begun n lines = record { due = replicate n 0; last = 0; ticks = replicate lines 0 }

-- no train asks between a move and the tables that it makes due
abbrev pub clock : Yard → Watched → Clock
clock y w = record { yard = y; due = w.due; now = w.last }

-- with the line of a table, which a move made due
abbrev pub noted : Watched → Watched
noted w = record w { ticks = w.ticks ++ w.last ∷ [] }

-- Train i moves next: it may move, and of those that may it is the first with the least due tick.
pub record MovesNext (T : Table) (p due : List ℕ) (i : ℕ) : Type 0 where
  pub move : Move T p i (advance p i)
  pub first : (j : ℕ) → Move T p j (advance p j)
      → (slice_index due i < slice_index due j) ⊎ ((slice_index due i ≡ slice_index due j) × (i ≤ j))

-- Of the trains below k this one moves next, or none may move.
abbrev pub MovesFirst : Table → List ℕ → List ℕ → ℕ → Option ℕ → Type 0
MovesFirst T p due k None = (j : ℕ) → j < k → Move T p j (advance p j) → ⊥
MovesFirst T p due k (Some i) =
    (i < k) × Move T p i (advance p i)
    × ((j : ℕ) → j < k → Move T p j (advance p j) → (slice_index due i < slice_index due j) ⊎ ((slice_index due i ≡ slice_index due j) × (i ≤ j)))

-- the least tick at which train j asks next, when train i is the next to ask and asks at this tick
abbrev pub not_before : ℕ → ℕ → ℕ → ℕ
not_before i tick j = if nat_lt j i then tick + 1 else tick

-- The trains that asked in vain until train i asks at its due tick are due at that tick, or one tick later where their number is less.
abbrev pub PutsOff : List ℕ → ℕ → List ℕ → Type 0
PutsOff due i later =
    (length later ≡ length due)
    × ((j : ℕ) → j < length due → slice_index later j ≡ max (slice_index due j) (not_before i (slice_index due i) j))

-- Train i has moved at its due tick, by a step that takes so long.
pub record Grants (w : Watched) (i takes : ℕ) (v : Watched) : Type 0 where
  pub later : List ℕ
  pub puts_off : PutsOff w.due i later
  pub due : v.due ≡ slice_set later i (slice_index w.due i + takes)
  pub last : v.last ≡ slice_index w.due i
  pub ticks : v.ticks ≡ w.ticks ++ slice_index w.due i ∷ []

-- One due tick per train, low enough after the moves made, and one tick per line.
pub record IsTimedSoFar (tables : List Offer) (y : Yard) (w : Watched) (lines : List Line) : Type 0 where
  pub one_each : length w.due ≡ trains (offer tables 0).table
  pub low : (i : ℕ) → i < length w.due → slice_index w.due i ≤ 1000 * y.moves
  pub counted : length w.ticks ≡ length lines

-- Entries were made that lead from one clock to another, so that each timed journal of the second is the rest of one of the first.
pub record Leads (tables : List Offer) (times : List (List (List ℕ))) (y : Yard) (w : Watched) (lines : List Line) (z : Yard) (v : Watched) (longer : List Line) : Type 0 where
  pub entries : List Stamped
  pub added : List (ℕ × Line)
  pub timed : (later : List Stamped) → IsTimed tables times (clock z v) later → IsTimed tables times (clock y w) (entries ++ later)
  pub told : (later : List Stamped) → timed_lines tables y (entries ++ later) ≡ added ++ timed_lines tables z later
  pub after : z ≡ after_lines y (lines_of added)
  pub adds : longer ≡ lines ++ lines_of added
  pub ticks : v.ticks ≡ w.ticks ++ ticks_of added
  pub last : v.last ≡ last_tick_or w.last added
