-- Members by name, and the refusal of one that has another shape.
use Rattle.std.specs.Prelude.{ℕ, List, codes, Option, Some, None, option_map, Result, Ok, ok_or, nat_le, if◌then◌else◌}
use Rattle.serde_json.specs.Data.{Data}
use Rattle.serde_json.specs.Find.{get}
use Rattle.document_shapes.specs.Shape.{Shape, at}
use Rattle.document_shapes.specs.declared.member.Member.{Member}
use Rattle.document_shapes.specs.declared.member.Member.TheVariants as member
use Rattle.document_shapes.specs.declared.refused.ShapeRefused.{ShapeRefused}
use Rattle.document_shapes.specs.declared.refused.ShapeRefused.TheVariants as refused

abbrev pub name_of : Member → List ℕ
name_of member.Document = codes "document"
name_of member.Version = codes "version"
name_of member.Points = codes "points"
name_of member.Links = codes "links"
name_of member.Zones = codes "zones"
name_of member.Trains = codes "trains"
name_of member.Start = codes "start"
name_of member.Tables = codes "tables"
name_of member.Missions = codes "missions"
name_of member.Exits = codes "exits"
name_of member.Sections = codes "sections"
name_of member.Connections = codes "connections"
name_of member.Certificate = codes "certificate"
name_of member.Times = codes "times"
name_of member.After = codes "after"

-- a member that has to be there, of the document or of a table
abbrev pub need : {A : Type 0} → Option ℕ → Member → Shape A → Data → Result A ShapeRefused
need table m shape d = ok_or (at (name_of m) shape d) (refused.Shape table m)

-- what a member is, where it is there
abbrev pub shaped : {A : Type 0} → ShapeRefused → Shape A → Option Data → Result (Option A) ShapeRefused
shaped e shape None = Ok None
shaped e shape (Some d) = ok_or (option_map Some (shape d)) e

-- a member of a table that may be missing
abbrev pub may : {A : Type 0} → ℕ → Member → Shape A → Data → Result (Option A) ShapeRefused
may t m shape d = shaped (refused.Shape (Some t) m) shape (get (name_of m) d)

-- a member that documents have from a version on; an older document has none
abbrev pub since : {A : Type 0} → ℕ → ℕ → Result (Option A) ShapeRefused → Result (Option A) ShapeRefused
since least version r = if nat_le least version then r else Ok None
