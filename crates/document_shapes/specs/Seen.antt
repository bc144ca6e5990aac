-- What readers hand out, as definitions see it.
use Rattle.std.specs.Prelude.{ℕ, List, map, option_map, string_bytes, String, Vec}
use Rattle.std.specs.declared.alloc.Global.{Global}
use Rattle.document_shapes.specs.Raw as raw
use Rattle.document_shapes.specs.declared.table.TableMembers.{TableMembers}
use Rattle.document_shapes.specs.declared.document.DocMembers.{DocMembers}

-- names, as their bytes
abbrev pub names_seen : Vec (String Global) Global → List (List ℕ)
names_seen names = map string_bytes names.items

abbrev pub seen_table : TableMembers → raw.TableMembers
seen_table t = record {
  missions = map names_seen t.missions.items;
  exits = option_map (λ v. v.items) t.exits;
  sections = option_map (λ v. v.items) t.sections;
  connections = option_map (λ v. v.items) t.connections;
  certificate = option_map (λ v. v.items) t.certificate;
  times = option_map (λ v. v.items) t.times;
  after = t.after;
}

abbrev pub seen_document : DocMembers → raw.DocMembers
seen_document d = record {
  version = d.version;
  points = map (λ p. (string_bytes p.0, p.1)) d.points.items;
  links = map (λ l. (string_bytes l.0, string_bytes l.1)) d.links.items;
  zones = d.zones;
  trains = names_seen d.trains;
  start = d.start.items;
  tables = map seen_table d.tables.items;
}
