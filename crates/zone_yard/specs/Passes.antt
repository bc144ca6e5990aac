-- What contracts see of a yard's passes: of a train's driver, of the control, and of the root from which they board.
use Rattle.std.specs.Prelude.{◌≡◌, ℕ, suc, ◌==◌, List, [], ◌∷◌, ◌++◌, map, true, false, if◌then◌else◌}
use Rattle.rail_model.specs.declared.types.Entry.{Entry}
use Rattle.rail_model.specs.declared.types.Reply.{Reply}
use Rattle.rail_model.specs.Table.{place}
use Rattle.rail_model.specs.Yard.{Yard, control}
use Rattle.move_claim.specs.declared.cells.Cell.{Cell}
use Rattle.zone_locks.specs.Zones.{has}
use Rattle.zone_machine.specs.Sound.{IsActor}
use Rattle.zone_yard.specs.Setup.{Setup, SharedYard, core, state_after}

-- An entry, and its place in the history.
pub record Receipt : Type 0 where
  pub ticket : ℕ
  pub entry : Entry

-- What a try at a zone found: its word, 0 or 1 and the holder's number, and the table that was glanced before, 0 where none was.
pub record Try : Type 0 where
  pub zone : ℕ
  pub found : ℕ
  pub glanced : ℕ

-- A driver or the control: its yard and its number there, where it stands, the history that it has seen, its own entries in it, and
-- what its tries at zones found. Between two calls it holds no zone and owes no cell.
pub record Pass : Type 0 where
  pub yard : SharedYard
  pub number : ℕ
  pub position : ℕ
  pub seen : List Entry
  pub mine : List Receipt
  pub tries : List Try
  pub held : List ℕ
  pub owed : List (Cell × ℕ)

-- The root: the history that it has seen, the entries of each pass that has left, how many passes are out, and all that ever boarded.
pub record Root : Type 0 where
  pub yard : SharedYard
  pub seen : List Entry
  pub done : List (ℕ × List Receipt)
  pub out : ℕ
  pub boarded : List ℕ

-- the list begins with these
abbrev pub StartsWith : {A : Type 0} → List A → List A → Type 0
StartsWith {A} whole front = (rest : List A) × (whole ≡ front ++ rest)

-- The pass has boarded once.
abbrev pub HasBoarded : Root → ℕ → Type 0
HasBoarded root p = has p root.boarded ≡ true

-- entries in a row, each with its ticket
abbrev pub receipts_from : ℕ → List Entry → List Receipt
receipts_from ticket [] = []
receipts_from ticket (e ∷ later) = record { ticket = ticket; entry = e } ∷ receipts_from (suc ticket) later

-- the entries of a pass in a history that is counted from k
abbrev pub entries_from : ℕ → ℕ → List Entry → List Receipt
entries_from k p [] = []
entries_from k p (e ∷ later) =
    if p == e.who then record { ticket = k; entry = e } ∷ entries_from (suc k) p later else entries_from (suc k) p later

-- the entries of a pass in a history, each with its place
abbrev pub entries_of : ℕ → List Entry → List Receipt
entries_of p H = entries_from 0 p H

-- the entries of a pass that has left; none of one that hasn't
abbrev pub done_of : ℕ → List (ℕ × List Receipt) → List Receipt
done_of p [] = []
done_of p (d ∷ later) = if p == d.0 then d.1 else done_of p later

-- the entries that tell a pass these replies
abbrev pub told : ℕ → List Reply → List Entry
told p replies = map (λ r. record { who = p; reply = r }) replies

-- where a pass stands: a train at its place, the control at the last table that has its answer
abbrev pub standing : Yard → ℕ → ℕ
standing y p = if p == control then y.tried else place y.positions p

-- Who hasn't boarded stands after a history where the yard opened.
abbrev pub IsAshore : Setup → List ℕ → List Entry → Type 0
IsAshore S boarded H =
    (p : ℕ) → IsActor (core S) p → has p boarded ≡ false → standing (state_after S H) p ≡ standing S.opening.yard p

-- The pass holds no zone and owes no cell.
abbrev pub IsFree : Pass → Type 0
IsFree pass = (pass.held ≡ []) × (pass.owed ≡ [])
