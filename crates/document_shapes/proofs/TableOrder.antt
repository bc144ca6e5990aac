-- What stands for a table's members, put together in the order of their names.
use Rattle.std.proofs.Common.{codes, Option, option_map}
use Rattle.serde_json.specs.Data.{Data, boolean, string, Members, no_members, member}
use Rattle.document_shapes.specs.Raw.{TableMembers}
use Rattle.document_shapes.specs.Written.{list_data, whole_data, node_data, section_data, connection_data, given_member}

-- What stands for each member, where there is one.
pub record Standing : Type 0 where
  pub after : Option Data
  pub certificate : Option Data
  pub connections : Option Data
  pub exits : Option Data
  pub missions : Data
  pub sections : Option Data
  pub times : Option Data

-- the members from each name on
module _ (s : Standing) where
  abbrev pub from_times : Members
  from_times = given_member (codes "times") s.times no_members

  abbrev pub from_sections : Members
  from_sections = given_member (codes "sections") s.sections from_times

  abbrev pub from_missions : Members
  from_missions = member (codes "missions") s.missions from_sections

  abbrev pub from_exits : Members
  from_exits = given_member (codes "exits") s.exits from_missions

  abbrev pub from_connections : Members
  from_connections = given_member (codes "connections") s.connections from_exits

  abbrev pub from_certificate : Members
  from_certificate = given_member (codes "certificate") s.certificate from_connections

  abbrev pub all_members : Members
  all_members = given_member (codes "after") s.after from_certificate

-- what stands for the members of a table
abbrev pub standing_for : TableMembers → Standing
standing_for t = record {
  after = option_map whole_data t.after;
  certificate = option_map (list_data node_data) t.certificate;
  connections = option_map (list_data connection_data) t.connections;
  exits = option_map (list_data boolean) t.exits;
  missions = list_data (list_data string) t.missions;
  sections = option_map (list_data section_data) t.sections;
  times = option_map (list_data (list_data whole_data)) t.times;
}
