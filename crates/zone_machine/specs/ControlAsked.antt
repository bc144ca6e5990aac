-- What holds of the control where the core lets it add its entry.
use Rattle.std.specs.Prelude.{◌≡◌, ◌+◌, ◌<◌, ◌≤◌, length}
use Rattle.rail_model.specs.declared.types.Tried.TheVariants.{Exchanged}
use Rattle.rail_model.specs.Table.{trains}
use Rattle.rail_model.specs.State.{Legal}
use Rattle.zone_machine.specs.World.{Setup, Actor, trains_of}
use Rattle.zone_machine.specs.Needs.{table_of}
use Rattle.zone_machine.specs.Entries.{known_table, known_positions, moves_to, tried}

-- The tables are there, the known positions are legal under the one in force, and under the next one where it takes over.
pub record IsTold (S : Setup) (a : Actor) : Type 0 where
  pub table : known_table a < length S.tables
  pub next : a.position + 1 < length S.tables
  pub few_tables : length S.tables ≤ 16
  pub same : trains (table_of S (a.position + 1)) ≡ trains (table_of S (known_table a))
  pub legal : Legal (table_of S (known_table a)) (known_positions S a)
  pub one_each : length (known_positions S a) ≡ trains_of S
  pub few_trains : trains_of S ≤ 32
  pub few_places : length S.opening.positions ≤ 32
  pub few_moves : moves_to S (known_positions S a) ≤ 4064
  pub takes_over : tried S a ≡ Exchanged → Legal (table_of S (a.position + 1)) (known_positions S a)
