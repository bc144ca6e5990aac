-- What an actor that owes a cell claimed.
use Rattle.std.specs.Prelude.{◌≡◌, ◌≢◌, ℕ, ◌<◌, ◌==◌, List, [], ◌∷◌, ◌++◌, if◌then◌else◌, Some, slice_get}
use Rattle.rail_model.specs.declared.types.Entry.{Entry}
use Rattle.rail_model.specs.declared.types.Reply.TheVariants.{Control}
use Rattle.rail_model.specs.Blocks.{block_entries}
use Rattle.rail_model.specs.Table.{place as place_of}
use Rattle.rail_model.specs.Yard.{control}
use Rattle.move_claim.specs.declared.cells.Cell.{Cell}
use Rattle.move_claim.specs.Cells.{number_of}
use Rattle.zone_machine.specs.World.{Setup, Actor, trains_of, yard_after}
use Rattle.zone_machine.specs.Needs.{zones}
use Rattle.zone_machine.specs.Entries.{known_table, own_claim, answer, tried, driver_after, control_after}

-- the actor after an entry of this many steps: the control's is of one
abbrev pub entered : Setup → ℕ → Actor → ℕ → Actor
entered S p a n = if p == control then control_after S a else driver_after S p a n

-- the entries that it makes
abbrev pub made : Setup → ℕ → Actor → ℕ → List Entry
made S p a n =
    if p == control then record { who = p; reply = Control (tried S a) } ∷ []
    else block_entries p (own_claim S p a n).steps (answer S p a n)

-- The actor's last entries stand in the history after a beginning of it. There the actor stood where that beginning has it, and knew the
-- table in force. It claimed the zones of its steps, is where they led, and owes no cell but those that they write.
pub record HasEntered (S : Setup) (history : List Entry) (p : ℕ) (a : Actor) : Type 0 where
  pub before : Actor
  pub steps : ℕ
  pub so_far : List Entry
  pub later : List Entry
  pub at : history ≡ so_far ++ made S p before steps ++ later
  pub last : (k : ℕ) (e : Entry) → slice_get later k ≡ Some e → e.who ≢ p
  pub under : known_table before ≡ (yard_after S so_far).table
  pub stood : p < trains_of S → before.position ≡ place_of (yard_after S so_far).positions p
  pub answered : p ≡ control → before.position ≡ (yard_after S so_far).tried
  pub claims : a.claimed ≡ zones S p before (known_table before) steps
  pub place : a.position ≡ (entered S p before steps).position
  pub owes : (c : Cell) (n : ℕ) → number_of c a.owed ≡ Some n → number_of c (entered S p before steps).owed ≡ Some n
