-- A document's members, as they are written: names for numbers, and every member that its version has.
use Rattle.std.specs.Prelude.{ℕ, List, map, nat_le, if◌then◌else◌, Option, Some, None}
use Rattle.rail_model.specs.Names.{Names, point_name}
use Rattle.rail_model.specs.Table.{Mission}
use Rattle.document_shapes.specs.Raw.{TableMembers, DocMembers}
use Rattle.document_json.specs.Doc.{Doc, DocTable, names_of}

-- the value, for documents from a version on
abbrev pub from_version : {A : Type 0} → ℕ → ℕ → A → Option A
from_version least version a = if nat_le least version then Some a else None

-- the names of the points of a mission
abbrev pub way_names : Names → Mission → List (List ℕ)
way_names N m = map (point_name N) m.points

abbrev pub table_members_in : ℕ → Names → DocTable → TableMembers
table_members_in version N t = record {
  missions = map (way_names N) t.table.missions;
  exits = from_version 2 version (map (λ m. m.exits) t.table.missions);
  sections = Some t.table.sections;
  connections = from_version 3 version t.table.connections;
  certificate = Some t.nodes;
  times = Some t.times;
  after = Some t.after;
}

abbrev pub members_in : Doc → DocMembers
members_in D = record {
  version = D.version;
  points = map (λ q. (q.name, q.zone)) D.layout.points;
  links = map (λ l. (point_name (names_of D) l.first, point_name (names_of D) l.second)) D.layout.links;
  zones = D.layout.zones;
  trains = D.trains;
  start = D.start;
  tables = map (table_members_in D.version (names_of D)) D.tables;
}

-- the members with another version and other tables
abbrev pub with_tables : ℕ → List TableMembers → DocMembers → DocMembers
with_tables version tables m = record m { version = version; tables = tables }

-- the document in another version
abbrev pub in_version : ℕ → Doc → Doc
in_version version D = record D { version = version }
