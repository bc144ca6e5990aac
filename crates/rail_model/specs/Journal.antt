-- Journals: lines of moves and tables, their text, and the journal of the round robin.
use Rattle.std.specs.Prelude.{◌≡◌, ℕ, ◌+◌, ◌%◌, ◌<◌, List, [], ◌∷◌, ◌++◌, codes, decimal, count_by, Bool, true, false, Some}
use Rattle.rail_model.specs.declared.types.Line.{Line}
use Rattle.rail_model.specs.declared.types.Line.TheVariants.{Move as MoveLine, Table as TableLine, KeptDiffers, KeptOver}
use Rattle.rail_model.specs.declared.types.Tried.TheVariants.{Exchanged, Differs, Over}
use Rattle.rail_model.specs.Table.{Table, trains, point, place}
use Rattle.rail_model.specs.State.{Arrived}
use Rattle.rail_model.specs.Move.{Move, advance}
use Rattle.rail_model.specs.Names.{Names, point_name, train_name, target_name}
use Rattle.rail_model.specs.Yard.{Offer, Yard, in_force, IsOpen, IsNextDue, Tries, moved, exchanged, kept_out}

-- the state after a line
abbrev pub after_line : Yard → Line → Yard
after_line y (MoveLine i _ _) = moved y i
after_line y (TableLine _) = exchanged y
after_line y (KeptDiffers _ _ _) = kept_out y
after_line y (KeptOver _ _ _) = kept_out y

abbrev pub after_lines : Yard → List Line → Yard
after_lines y [] = y
after_lines y (l ∷ later) = after_lines (after_line y l) later

-- A move under the table in force, from the point of the train to its next point, if there is one; or the next table, which is due, with its answer.
abbrev pub IsLine : List Offer → Yard → Line → Type 0
IsLine tables y (MoveLine i from to) =
    let T = in_force tables y in
    Move T y.positions i (advance y.positions i)
    × (point T i (place y.positions i) ≡ Some from) × (point T i (place y.positions i + 1) ≡ to)
IsLine tables y (TableLine t) = (t ≡ y.tried + 1) × Tries tables y Exchanged
IsLine tables y (KeptDiffers t i k) = (t ≡ y.tried + 1) × Tries tables y (Differs i k)
IsLine tables y (KeptOver t s n) = (t ≡ y.tried + 1) × Tries tables y (Over s n)

abbrev pub IsRight : List Offer → Yard → List Line → Type 0
IsRight tables y [] = Unit {0}
IsRight tables y (l ∷ later) = IsLine tables y l × IsRight tables (after_line y l) later

-- All trains have arrived and no table is open.
abbrev pub IsDone : List Offer → Yard → Type 0
IsDone tables y = Arrived (in_force tables y) y.positions × (IsOpen tables y → ⊥)

abbrev pub is_move : Line → Bool
is_move (MoveLine _ _ _) = true
is_move _ = false

abbrev pub is_table : Line → Bool
is_table (TableLine _) = true
is_table _ = false

-- Lines, and the two counts of the end line.
pub record Journal : Type 0 where
  pub lines : List Line
  pub moves : ℕ
  pub tables : ℕ

-- the journal of these lines, with its two counts
abbrev pub with_counts : List Line → Journal
with_counts lines = record { lines = lines; moves = count_by is_move lines; tables = count_by is_table lines }

-- Right from the opening state on, done at its end, with true counts.
pub record IsWhole (tables : List Offer) (y : Yard) (J : Journal) : Type 0 where
  pub right : IsRight tables y J.lines
  pub done : IsDone tables (after_lines y J.lines)
  pub moves : J.moves ≡ count_by is_move J.lines
  pub exchanges : J.tables ≡ count_by is_table J.lines

-- one line without its number
abbrev pub words : Names → Line → List ℕ
words N (MoveLine i from to) = codes " move " ++ train_name N i ++ codes " " ++ point_name N from ++ codes " " ++ target_name N to
words N (TableLine t) = codes " table " ++ decimal t
words N (KeptDiffers t i k) = codes " kept " ++ decimal t ++ codes " differs " ++ train_name N i ++ codes " " ++ decimal k
words N (KeptOver t s n) = codes " kept " ++ decimal t ++ codes " over " ++ decimal s ++ codes " " ++ decimal n

abbrev pub lines_text : Names → ℕ → List Line → List ℕ
lines_text N n [] = []
lines_text N n (l ∷ later) = decimal n ++ words N l ++ codes "\n" ++ lines_text N (n + 1) later

abbrev pub end_text : ℕ → ℕ → List ℕ
end_text moves tables = codes "end moves=" ++ decimal moves ++ codes " tables=" ++ decimal tables ++ codes "\n"

abbrev pub text : Names → Journal → List ℕ
text N J = lines_text N 1 J.lines ++ end_text J.moves J.tables

-- Counted round from the train after the last mover, no train before train i has a move.
pub record IsNextMover (T : Table) (p : List ℕ) (last i : ℕ) : Type 0 where
  pub steps : ℕ
  pub in_round : steps < trains T
  pub reached : i ≡ (last + 1 + steps) % trains T
  pub skipped : (k : ℕ) → k < steps → Move T p ((last + 1 + k) % trains T) (advance p ((last + 1 + k) % trains T)) → ⊥

-- The round robin from a state on: tables as soon as they are due, else the first train that has a move.
abbrev pub IsRound : List Offer → Yard → ℕ → List Line → Type 0
IsRound tables y last [] = IsDone tables y
IsRound tables y last (MoveLine i from to ∷ later) =
    IsLine tables y (MoveLine i from to) × (IsNextDue tables y → ⊥)
    × IsNextMover (in_force tables y) y.positions last i
    × IsRound tables (moved y i) i later
IsRound tables y last (l ∷ later) = IsLine tables y l × IsRound tables (after_line y l) last later
