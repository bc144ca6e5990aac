-- What each kind of step on the shared table tells its seat.
use Rattle.std.specs.Prelude.{◌≡◌, ◌≢◌, ℕ, suc, ◌+◌, ◌-◌, ◌/◌, ◌<◌, ◌≤◌, ◌^◌, List, length, All, [], true, false, Some}
use Rattle.atomic_table.specs.Table.{Step}
use Rattle.rail_model.specs.declared.types.Entry.{Entry}
use Rattle.rail_model.specs.Yard.{control}
use Rattle.move_claim.specs.declared.cells.Cell.{Cell}
use Rattle.move_claim.specs.declared.cells.Cell.TheVariants.{Table as TableCell}
use Rattle.move_claim.specs.Cells.{number_of, AreDistinct}
use Rattle.zone_locks.specs.Zones.{has}
use Rattle.zone_machine.specs.Sound.{IsActor, IsSetup as IsCoreSetup}
use Rattle.zone_machine.specs.World.{is_cell}
use Rattle.zone_machine.specs.ControlAsked.{IsTold}
use Rattle.atomic_table.specs.Seated.{TableId}
use Rattle.zone_yard.specs.Setup.{SharedYard, core, state_after, IsLegalHistory, most_passes}
use Rattle.zone_yard.specs.Passes.{StartsWith, IsAshore, entries_of, done_of, standing}
use Rattle.zone_yard.specs.Views.{View, Seat, tried_at, took, gave, glanced, read, read_table, paid, entered, looked}

-- The seat is one at this yard's table.
abbrev pub IsOurs : SharedYard → TableId → View → Type 0
IsOurs yard id v = (id ≡ yard.id) × (v.setup ≡ yard.setup)

-- the zone of a step's word
abbrev pub zone_of : Step (Unit {0}) → ℕ
zone_of st = st.word / 8 - 1

-- A zone that was free is taken; one that wasn't is held by another pass. The try is noted either way.
pub record TakesZone (st : Step (Unit {0})) (m : Seat) (found : ℕ) (after : Seat) : Type 0 where
  pub free : found ≡ 0 → after ≡ record m { view = took (zone_of st) m.view }
  pub held : found ≢ 0 → (after ≡ record m { view = tried_at (zone_of st) found m.view }) × (found ≢ suc m.view.number) × (found ≤ most_passes)

-- A zone is given back.
abbrev pub Releases : Step (Unit {0}) → Seat → ℕ → Seat → Type 0
Releases st m found after = after ≡ record m { view = gave (zone_of st) m.view }

-- The table in force is seen without a zone. It is one of the tables, and no earlier than what was noted.
abbrev pub Glances : Step (Unit {0}) → Seat → ℕ → Seat → Type 0
Glances st m found after = (m.view.noted ≤ found) × (found < length m.view.setup.tables) × (after ≡ record m { view = glanced found m.view })

-- The table in force is read under a zone.
abbrev pub ReadsInForce : Step (Unit {0}) → Seat → ℕ → Seat → Type 0
ReadsInForce st m found after = (m.view.noted ≤ found) × (found < length m.view.setup.tables) × (after ≡ record m { view = read_table found m.view })

-- A cell is read under its guard. Its number is small.
abbrev pub ReadsCell : Cell → Seat → ℕ → Seat → Type 0
ReadsCell c m found after = (found < 2 ^ 31) × (after ≡ record m { view = read c found m.view })

-- An owed cell is written.
abbrev pub PaysCell : Cell → Seat → Seat → Type 0
PaysCell c m after = after ≡ record m { view = paid c m.view }

-- The answer's entries are added to the history as it is: of a driver to a request of this many steps, of the control to the next table,
-- where the positions that the control knows are legal.
pub record Appends (steps : ℕ) (m : Seat) (found : ℕ) (after : Seat) : Type 0 where
  pub before : List Entry
  pub begins : StartsWith before m.view.seen
  pub counted : length before ≡ found
  pub formed : IsCoreSetup (core m.view.setup)
  pub few : found < 2 ^ 40
  pub so_far : entries_of m.view.number before ≡ m.view.mine
  pub stood : m.view.actor.position ≡ standing (state_after m.view.setup before) m.view.number
  pub under : (t : ℕ) → number_of TableCell m.view.actor.known ≡ Some t → (state_after m.view.setup before).table ≡ t
  pub now : after ≡ record m { view = entered steps before m.view }
  pub legal : IsLegalHistory m.view.setup after.view.seen
  pub own : entries_of m.view.number after.view.seen ≡ after.view.mine
  pub stands : after.view.actor.position ≡ standing (state_after m.view.setup after.view.seen) m.view.number
  pub once : AreDistinct after.view.actor.owed
  pub cells : (c : Cell) (n : ℕ) → number_of c after.view.actor.owed ≡ Some n → is_cell (core m.view.setup) c ≡ true
  pub turn : m.view.number ≡ control → IsTold (core m.view.setup) m.view.actor

-- The root looks: it sees a legal history that begins with all that it had seen, and with all that was seen by who was joined to it. A pass
-- that hasn't boarded is still where the yard opened. With nobody out, that is the whole history, which has of each pass exactly the entries
-- that are done.
pub record Looks (m : Seat) (found : ℕ) (after : Seat) : Type 0 where
  pub history : List Entry
  pub formed : IsCoreSetup (core m.view.setup)
  pub now : after ≡ record m { view = looked history m.view }
  pub counted : length history ≡ found
  pub legal : IsLegalHistory m.view.setup history
  pub begins : StartsWith history m.view.seen
  pub joined : All (StartsWith history) m.view.joined
  pub left : m.view.out + length m.view.done ≡ length m.view.boarded
  pub ashore : IsAshore m.view.setup m.view.boarded history
  pub away : (p : ℕ) → IsActor (core m.view.setup) p → has p m.view.boarded ≡ false → entries_of p history ≡ []
  pub whole : m.view.out ≡ 0 → m.view.seen ≡ history
  pub passes : m.view.out ≡ 0 → (p : ℕ) → p < most_passes → entries_of p history ≡ done_of p m.view.done
