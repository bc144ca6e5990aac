-- What `replay` and `verify` answer.
use Rattle.std.specs.Prelude.{◌≡◌, ◌≢◌, ◌⊎◌, ℕ, ◌+◌, ◌<◌, ◌≤◌, List, ◌∷◌, ◌++◌, length, Option, Some, Result, Ok, Err}
use Rattle.rail_model.specs.declared.types.Ask.{Ask}
use Rattle.rail_model.specs.declared.types.Ask.TheVariants.{Yes, Arrived as AtEnd}
use Rattle.rail_model.specs.declared.types.Line.{Line}
use Rattle.rail_model.specs.declared.types.Line.TheVariants.{Move}
use Rattle.rail_model.specs.Table.{Table, trains, last, point, place}
use Rattle.rail_model.specs.State.{Arrived}
use Rattle.rail_model.specs.Move.{Answers, IsFirst}
use Rattle.rail_model.specs.Yard.{Offer, Yard, in_force, IsOpen}
use Rattle.rail_model.specs.Journal.{Journal, IsLine, IsRight, IsDone, IsWhole, after_lines}
use Rattle.rail_model.specs.Plain.{Plain}
use Rattle.table_exchange.specs.Arrivals.{IsUnfinished}
use Rattle.move_journal.specs.declared.faults.BadLine.{BadLine}
use Rattle.move_journal.specs.declared.faults.BadLine.TheVariants as bad
use Rattle.move_journal.specs.Counted.{CountsAreTrue}

-- Train i is at one point, and its next one is the other, if there is one.
abbrev pub IsStepBetween : Table → List ℕ → ℕ → ℕ → Option ℕ → Type 0
IsStepBetween T p i from to = (point T i (place p i) ≡ Some from) × (point T i (place p i + 1) ≡ to)

-- A move that the train can't make: its answer, which isn't Yes. It has arrived, or the two points are right.
abbrev pub IsRefusedMove : List Offer → Yard → Line → Ask → Type 0
IsRefusedMove tables y (Move i from to) ask =
    (i < trains (in_force tables y)) × Answers (in_force tables y) y.positions i ask × (ask ≢ Yes)
    × ((ask ≡ AtEnd) ⊎ IsStepBetween (in_force tables y) y.positions i from to)
IsRefusedMove tables y l ask = ⊥

-- A move of no train, or of one that hasn't arrived and whose points aren't its own and its next one.
abbrev pub IsMisplaced : List Offer → Yard → Line → Type 0
IsMisplaced tables y (Move i from to) =
    (trains (in_force tables y) ≤ i)
    ⊎ ((place y.positions i ≢ last (in_force tables y) i) × (IsStepBetween (in_force tables y) y.positions i from to → ⊥))
IsMisplaced tables y l = ⊥

-- A line of a table that isn't the next one, or isn't due, or has another answer.
abbrev pub IsWrongTable : List Offer → Yard → Line → Type 0
IsWrongTable tables y (Move i from to) = ⊥
IsWrongTable tables y l = IsLine tables y l → ⊥

-- Why a line, the k-th, is not right in a state of the yard.
abbrev pub IsBad : List Offer → Yard → ℕ → Line → BadLine → Type 0
IsBad tables y k l (bad.Move j ask) = (j ≡ k) × IsRefusedMove tables y l ask
IsBad tables y k l (bad.Place j) = (j ≡ k) × IsMisplaced tables y l
IsBad tables y k l (bad.Table j) = (j ≡ k) × IsWrongTable tables y l
IsBad tables y k l e = ⊥

-- The first line that is not right: the ones before it are.
abbrev pub HasBadLine : List Offer → Yard → List Line → BadLine → Type 0
HasBadLine tables y lines e =
    (front : List Line) × (l : Line) × (later : List Line) × (lines ≡ front ++ l ∷ later)
    × IsRight tables y front × IsBad tables (after_lines y front) (length front + 1) l e

-- The lines are right, and lead to the state.
pub record LeadsThrough (tables : List Offer) (y : Yard) (all : List Line) (plain : Plain) : Type 0 where
  pub right : IsRight tables y all
  pub yard : plain.yard ≡ after_lines y all
  pub lines : plain.lines ≡ all

-- What `replay` answers: the state that the lines lead to, or the first line that isn't right.
abbrev pub Replays : List Offer → Yard → Journal → Result Plain BadLine → Type 0
Replays tables y J (Ok plain) = LeadsThrough tables y J.lines plain
Replays tables y J (Err bad.Memory) = Unit {0}
Replays tables y J (Err e) = HasBadLine tables y J.lines e

-- What a right journal lacks where its lines end: an arrival, a table's answer, or true counts.
abbrev pub Lacks : List Offer → Yard → Journal → BadLine → Type 0
Lacks tables y J (bad.Unfinished i) = IsFirst (IsUnfinished (in_force tables y) y.positions) i
Lacks tables y J (bad.Open t) = Arrived (in_force tables y) y.positions × IsOpen tables y × (t ≡ y.tried + 1)
Lacks tables y J bad.Counts = IsDone tables y × (CountsAreTrue J → ⊥)
Lacks tables y J e = ⊥

-- A journal that isn't whole: its first line that isn't right, or what it lacks after lines that are.
abbrev pub IsBrokenJournal : List Offer → Yard → Journal → BadLine → Type 0
IsBrokenJournal tables y J e = HasBadLine tables y J.lines e ⊎ (IsRight tables y J.lines × Lacks tables (after_lines y J.lines) J e)

-- What `verify` answers.
abbrev pub Verifies : List Offer → Yard → Journal → Result (Unit {0}) BadLine → Type 0
Verifies tables y J (Ok u) = IsWhole tables y J
Verifies tables y J (Err bad.Memory) = Unit {0}
Verifies tables y J (Err e) = IsBrokenJournal tables y J e
