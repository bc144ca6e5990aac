-- A table with other connections is a table.
use Rattle.std.proofs.Common.{◌≡◌, ℕ, ◌≤◌, List, length, Some, slice_get}
use Rattle.rail_model.specs.Table.{Table, Connection, IsSection, IsConnection, IsTable}

same_section : (T : Table) (list : List Connection) (s : ℕ) → IsSection T s → IsSection (record T { connections = list }) s
same_section T list s old = record {
  low_limit = old.low_limit;
  one_each = old.one_each;
  per_place = old.per_place;
  not_below = old.not_below;
  not_above = old.not_above;
}

same_connection : (T : Table) (list : List Connection) (k : Connection) → IsConnection T k → IsConnection (record T { connections = list }) k
same_connection T list k old = record {
  train = old.train;
  other = old.other;
  two = old.two;
  place = old.place;
  reached = old.reached;
}

pub with_connections : (T : Table) (list : List Connection) → IsTable T → length list ≤ 32
    → ((c : ℕ) (k : Connection) → slice_get list c ≡ Some k → IsConnection T k) → IsTable (record T { connections = list })
with_connections T list old few formed = record {
  few_trains = old.few_trains;
  missions = old.missions;
  few_sections = old.few_sections;
  sections = λ s lt. same_section T list s (old.sections s lt);
  few_connections = few;
  connections = λ c k at. same_connection T list k (formed c k at);
}
