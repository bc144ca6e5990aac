-- What an append leaves of its actor.
use Rattle.std.specs.Prelude.{ℕ, ◌+◌, List, [], true, if◌then◌else◌}
use Rattle.rail_model.specs.declared.types.Tried.{Tried}
use Rattle.rail_model.specs.Table.{Table}
use Rattle.rail_model.specs.declared.types.BlockAsk.{BlockAsk}
use Rattle.move_claim.specs.Cells.{number_in}
use Rattle.move_claim.specs.Claims.{Footprint}
use Rattle.move_claim.specs.Deciding.{effects}
use Rattle.zone_machine.specs.World.{Actor}
use Rattle.zone_machine.specs.Entries.{is_granted, is_answer, is_exchange, exchange_effects}

-- a driver after this answer to the steps of a footprint
abbrev pub driver_told : Footprint → BlockAsk → Actor → Actor
driver_told f told a = record a {
  owed = if is_granted told then effects f.table f.claim (number_in a.known) else [];
  closing = true;
  claimed = f.zones;
  position = if is_granted told then a.position + f.claim.steps else a.position;
}

-- the control after this answer of a table, with all zones and all positions
abbrev pub control_told : List ℕ → Table → List ℕ → Tried → Actor → Actor
control_told zones new positions told a = record a {
  owed = if is_exchange told then exchange_effects new (a.position + 1) positions else [];
  closing = true;
  claimed = zones;
  position = if is_answer told then a.position + 1 else a.position;
}
