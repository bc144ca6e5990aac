-- What the code of a pass keeps between two calls.
use Rattle.std.specs.Prelude.{◌≡◌, ℕ, suc, ◌∷◌, ◌+◌, ◌*◌, ◌<◌, ◌≤◌, ◌^◌, List, [], length, slice_index_or, Bool, true, false}
use Rattle.atomic_table.specs.Seated.{TableId}
use Rattle.rail_model.specs.Table.{trains}
use Rattle.rail_model.specs.Yard.{offer, control}
use Rattle.plain_yard.specs.Keeps.{Keeps}
use Rattle.zone_locks.specs.Zones.{has}
use Rattle.zone_machine.specs.declared.steps.Stage.TheVariants.{Aboard}
use Rattle.zone_machine.specs.World.{Actor, words_of, trains_of}
use Rattle.zone_machine.specs.Sound.{IsActor, IsSetup as IsCoreSetup}
use Rattle.zone_yard.specs.Setup.{Setup, core, state_after, IsLegalHistory, most_passes}
use Rattle.zone_yard.specs.Passes.{IsAshore, entries_of}
use Rattle.zone_yard.specs.Views.{View, Seat}

-- The actor is aboard and stands there. It holds no zone, knows no number, owes none, and isn't closing.
pub record IsIdle (position : ℕ) (a : Actor) : Type 0 where
  pub stage : a.stage ≡ Aboard
  pub held : a.held ≡ []
  pub known : a.known ≡ []
  pub owed : a.owed ≡ []
  pub still : a.closing ≡ false
  pub stands : a.position ≡ position

-- The seat is this pass, stands there, has made this many entries, and is idle.
pub record IsPass (number position entries : ℕ) (me : Seat) : Type 0 where
  pub aboard : me.view.aboard ≡ true
  pub number_is : me.view.number ≡ number
  pub idle : IsIdle position me.view.actor
  pub made : length me.view.mine ≡ entries
  pub room : entries ≤ me.view.setup.calls
  pub few_calls : me.view.setup.calls < 2 ^ 32
  pub legal : IsLegalHistory me.view.setup me.view.seen
  pub slots : me.slots ≡ []

-- The seat is the pass of a train that the tables have.
pub record IsDriver (train position entries : ℕ) (me : Seat) : Type 0 where
  pub pass : IsPass train position entries me
  pub named : train < trains (offer me.view.setup.tables 0).table

-- The seat is the control, and the last table that has its answer is that of the history that it has seen. There is room for a position
-- of each train.
pub record IsControl (tried entries : ℕ) (positions : List ℕ) (me : Seat) : Type 0 where
  pub pass : IsPass control tried entries me
  pub answered : tried ≡ (state_after me.view.setup me.view.seen).tried
  pub one_each : length positions ≡ trains_of (core me.view.setup)

-- how many of these are true
abbrev pub many : List Bool → ℕ
many [] = 0
many (true ∷ later) = suc (many later)
many (false ∷ later) = many later

-- The seat is the root's: the code knows who has boarded and how many are out, and what was seen is legal.
pub record IsRoot (boarded : List Bool) (out id : ℕ) (v : View) : Type 0 where
  pub first : id ≡ 0
  pub wide : length boarded ≡ most_passes
  pub known : (p : ℕ) → p < most_passes → slice_index_or boarded p false ≡ has p v.boarded
  pub counted : length v.boarded ≡ many boarded
  pub out_is : out ≡ v.out
  pub few : out + length v.done ≡ length v.boarded
  pub away : (p : ℕ) → IsActor (core v.setup) p → has p v.boarded ≡ false → entries_of p v.seen ≡ []
  pub legal : IsLegalHistory v.setup v.seen
  pub ashore : IsAshore v.setup v.boarded v.seen
  pub few_calls : v.setup.calls < 2 ^ 32

-- The table's rule is of what the yard was made with, and the table has eight words for each of the core's.
pub record IsYard (key : Setup) (id : TableId) (S : Setup) : Type 0 where
  pub key_is : key ≡ S
  pub words : id.words ≡ 8 * words_of (core S)
  pub slots : id.slots ≡ 0
  pub formed : IsCoreSetup (core S)
  pub keeps : Keeps S.tables S.opening.yard S.opening.lines
  pub few_calls : S.calls < 2 ^ 32
