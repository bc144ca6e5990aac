-- What a seat at the shared table knows: the root's, a pass's, or one that was given up.
use Rattle.std.specs.Prelude.{ℕ, ◌+◌, ◌-◌, ◌==◌, nat_lt, List, [], ◌∷◌, ◌++◌, length, Bool, true, false, if◌then◌else◌, Some}
use Rattle.std.specs.Option.{option_map_or}
use Rattle.atomic_table.specs.Table.{Me}
use Rattle.atomic_table.specs.Seated.{TableId}
use Rattle.rail_model.specs.declared.types.Entry.{Entry}
use Rattle.rail_model.specs.declared.types.Reply.TheVariants.{Control}
use Rattle.rail_model.specs.Yard.{control}
use Rattle.move_claim.specs.declared.cells.Cell.{Cell}
use Rattle.move_claim.specs.declared.cells.Cell.TheVariants.{Table as TableCell}
use Rattle.move_claim.specs.Cells.{put, without_cell}
use Rattle.zone_machine.specs.declared.steps.Stage.TheVariants.{Aboard}
use Rattle.zone_machine.specs.World.{Actor, gone}
use Rattle.zone_machine.specs.Entries.{own_claim, answer, tried, driver_after, control_after}
use Rattle.rail_model.specs.Blocks.{block_entries}
use Rattle.zone_machine.specs.Steps.{releasing}
use Rattle.zone_yard.specs.Setup.{Setup, core}
use Rattle.zone_yard.specs.Passes.{Receipt, Try, Pass, Root, standing, receipts_from}

-- What the yard was made with; whether this is a pass, and its number; what it has seen, its own entries, what its tries found, the
-- latest table that it noted, and what the core has of it. Of the root also who has boarded, how many are out, the entries of those that
-- left, and what was seen by those that were joined to it.
pub record View : Type 0 where
  pub setup : Setup
  pub aboard : Bool
  pub number : ℕ
  pub seen : List Entry
  pub mine : List Receipt
  pub tries : List Try
  pub noted : ℕ
  pub actor : Actor
  pub boarded : List ℕ
  pub out : ℕ
  pub done : List (ℕ × List Receipt)
  pub joined : List (List Entry)

-- A seat's view, and the slots that it has taken: a yard's table has none.
pub record Seat : Type 0 where
  pub view : View
  pub slots : List (ℕ × Unit {0})

-- the seat that a pair of the table is
abbrev pub seat_of : Me (Unit {0}) View → Seat
seat_of me = record { view = me.0; slots = me.1 }

-- A seat at a table, by its number.
pub record Place : Type 0 where
  pub table_id : TableId
  pub id : ℕ
  pub me : Seat

-- a root that has seen this
abbrev pub root_view : Setup → List Entry → View
root_view S seen = record {
  setup = S;
  aboard = false;
  number = 0;
  seen = seen;
  mine = [];
  tries = [];
  noted = 0;
  actor = gone;
  boarded = [];
  out = 0;
  done = [];
  joined = [];
}

-- made with nothing
abbrev pub no_setup : Setup
no_setup = record {
  layout = record { points = []; links = []; zones = 0 };
  tables = [];
  opening = record { yard = record { positions = []; table = 0; tried = 0; moves = 0 }; lines = [] };
  calls = 0;
}

-- a seat that was given up
abbrev pub gone_view : View
gone_view = root_view no_setup []

-- an actor that is aboard, stands there and has nothing
abbrev pub free_actor : ℕ → Actor
free_actor position = record gone { stage = Aboard; position = position }

-- an actor that knows these numbers and stands there
abbrev pub knower : List (Cell × ℕ) → ℕ → Actor
knower known position = record gone { known = known; position = position }

-- a pass that boards from a root
abbrev pub pass_view : ℕ → View → View
pass_view p v =
    record (root_view v.setup v.seen) { aboard = true; number = p; noted = v.noted; actor = free_actor (standing v.setup.opening.yard p) }

-- the root as a pass boards
abbrev pub boarding : ℕ → View → View
boarding p v = record v { boarded = p ∷ v.boarded; out = v.out + 1 }

-- the longer of two histories
abbrev pub longer_of : List Entry → List Entry → List Entry
longer_of G H = if nat_lt (length G) (length H) then H else G

-- the root as a pass leaves
abbrev pub leaving : View → View → View
leaving v w = record v {
  seen = longer_of v.seen w.seen;
  out = v.out - 1;
  done = (w.number, w.mine) ∷ v.done;
  joined = v.seen ∷ w.seen ∷ v.joined;
}

-- what contracts see of a pass's seat at a table
abbrev pub pass_of : TableId → View → Pass
pass_of id v = record {
  yard = record { id = id; setup = v.setup };
  number = v.number;
  position = v.actor.position;
  seen = v.seen;
  mine = v.mine;
  tries = v.tries;
  held = v.actor.held;
  owed = v.actor.owed;
}

-- what contracts see of the root's seat
abbrev pub root_of : TableId → View → Root
root_of id v = record { yard = record { id = id; setup = v.setup }; seen = v.seen; done = v.done; out = v.out; boarded = v.boarded }

abbrev pub with_actor : View → Actor → View
with_actor v a = record v { actor = a }

-- a try found this word at the zone; it is noted with the table that was glanced before, or 0
abbrev pub tried_at : ℕ → ℕ → View → View
tried_at z found v = record v { tries = v.tries ++ record { zone = z; found = found; glanced = option_map_or (λ t. t) v.actor.glance 0 } ∷ [] }

-- the view where a zone was free and is taken
abbrev pub took : ℕ → View → View
took z v = tried_at z 0 (with_actor v (record v.actor { held = v.actor.held ++ z ∷ [] }))

-- the view where a zone is given back
abbrev pub gave : ℕ → View → View
gave z v = with_actor v (releasing (core v.setup) v.number z v.actor)

-- the view where the table in force was glanced
abbrev pub glanced : ℕ → View → View
glanced t v = record v { noted = t; actor = record v.actor { glance = Some t } }

-- the view where a cell was read
abbrev pub read : Cell → ℕ → View → View
read c found v = with_actor v (record v.actor { known = put c found v.actor.known })

-- the view where the table in force was read under a zone
abbrev pub read_table : ℕ → View → View
read_table found v = record (read TableCell found v) { noted = found }

-- the view where an owed cell was written
abbrev pub paid : Cell → View → View
paid c v = with_actor v (record v.actor { owed = without_cell c v.actor.owed })

-- the entries with which a pass is answered: a driver of a block of this many steps, the control of the next table
abbrev pub new_entries : ℕ → View → List Entry
new_entries steps v =
    let S = core v.setup in
    if v.number == control then record { who = v.number; reply = Control (tried S v.actor) } ∷ []
    else block_entries v.number (own_claim S v.number v.actor steps).steps (answer S v.number v.actor steps)

-- the core's actor after these entries
abbrev pub actor_after : ℕ → View → Actor
actor_after steps v =
    let S = core v.setup in
    if v.number == control then control_after S v.actor else driver_after S v.number v.actor steps

-- the view where the entries were added after a history
abbrev pub entered : ℕ → List Entry → View → View
entered steps before v = record v {
  seen = before ++ new_entries steps v;
  mine = v.mine ++ receipts_from (length before) (new_entries steps v);
  actor = actor_after steps v;
}

-- the root's view where it has looked
abbrev pub looked : List Entry → View → View
looked H v = record v { seen = H; joined = [] }
