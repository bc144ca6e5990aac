-- The document of a plan.
use Rattle.std.specs.Prelude.{[], map, string_bytes, Some}
use Rattle.rail_model.specs.Table.{Section, Connection}
use Rattle.document_shapes.specs.Raw.{TableMembers, DocMembers}
use Rattle.document_shapes.specs.Seen.{names_seen}
use Rattle.plan_document.specs.Shares.{changes}
use Rattle.plan_document.specs.declared.plan.Plan.{Plan}
use Rattle.plan_document.specs.declared.plan.TablePlan.{TablePlan}
use Rattle.plan_document.specs.declared.plan.SectionPlan.{SectionPlan}
use Rattle.plan_document.specs.declared.plan.Wait.{Wait}

-- a section of the document: the limit, and for each train the changes that make its shares
abbrev pub section_of : SectionPlan → Section
section_of s = record { limit = s.limit; changes = map (λ shares. changes shares.items) s.shares.items }

-- a connection of the document: the train may not leave its place before the other has reached its own
abbrev pub connection_of : Wait → Connection
connection_of w = record { train = w.train; place = w.leaves; other = w.after; reached = w.reached }

-- a table of the document, with an empty certificate
abbrev pub table_of : TablePlan → TableMembers
table_of t = record {
  missions = map names_seen t.routes.items;
  exits = Some t.exits.items;
  sections = Some (map section_of t.sections.items);
  connections = Some (map connection_of t.waits.items);
  certificate = Some [];
  times = Some t.times.items;
  after = Some t.after;
}

-- the document of a plan, in version 3
abbrev pub document_of : Plan → DocMembers
document_of p = record {
  version = 3;
  points = map (λ q. (string_bytes q.0, q.1)) p.points.items;
  links = map (λ l. (string_bytes l.0, string_bytes l.1)) p.links.items;
  zones = p.zones;
  trains = names_seen p.trains;
  start = p.start.items;
  tables = map table_of p.tables.items;
}
