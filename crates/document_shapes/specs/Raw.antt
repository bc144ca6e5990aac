-- The members of the document that bytes are, or the first refusal of their shape.
use Rattle.std.specs.Prelude.{◌≡◌, ◌<◌, ◌≤◌, ℕ, ◌&&◌, List, All, Bool, Option, Some, None, Result, Ok, Err, ok_or, nat_le, if◌then◌else◌}
use Rattle.serde_json.specs.Data.{Data}
use Rattle.rail_model.specs.declared.types.Node.{Node}
use Rattle.rail_model.specs.Table.{Section, Connection}
use Rattle.document_shapes.specs.Reading.{reading}
use Rattle.document_shapes.specs.Shape.{whole, truth, text, object, list_of, pair}
use Rattle.document_shapes.specs.Parts.{node, section, connection}
use Rattle.rail_model.specs.Turns.{in_turn}
use Rattle.document_shapes.specs.Each.{each_from}
use Rattle.document_shapes.specs.Members.{need, may, since}
use Rattle.document_shapes.specs.declared.member.Member.TheVariants as member
use Rattle.document_shapes.specs.declared.refused.ShapeRefused.{ShapeRefused}
use Rattle.document_shapes.specs.declared.refused.ShapeRefused.TheVariants as refused

-- A table's members; all but `missions` may be missing.
pub record TableMembers : Type 0 where
  pub missions : List (List (List ℕ))
  pub exits : Option (List Bool)
  pub sections : Option (List Section)
  pub connections : Option (List Connection)
  pub certificate : Option (List Node)
  pub times : Option (List (List ℕ))
  pub after : Option ℕ

-- A document's members: points with their zones, links by the names of their points.
pub record DocMembers : Type 0 where
  pub version : ℕ
  pub points : List (List ℕ × ℕ)
  pub links : List (List ℕ × List ℕ)
  pub zones : ℕ
  pub trains : List (List ℕ)
  pub start : List ℕ
  pub tables : List TableMembers

-- the members of table t, in their order
abbrev pub table_members : ℕ → ℕ → Data → Result TableMembers ShapeRefused
table_members version t d =
    in_turn (need (Some t) member.Missions (list_of (list_of text)) d) (λ missions.
    in_turn (since 2 version (may t member.Exits (list_of truth) d)) (λ exits.
    in_turn (may t member.Sections (list_of section) d) (λ sections.
    in_turn (since 3 version (may t member.Connections (list_of connection) d)) (λ connections.
    in_turn (may t member.Certificate (list_of node) d) (λ certificate.
    in_turn (may t member.Times (list_of (list_of whole)) d) (λ times.
    in_turn (may t member.After whole d) (λ after.
    Ok (record {
      missions = missions;
      exits = exits;
      sections = sections;
      connections = connections;
      certificate = certificate;
      times = times;
      after = after;
    }))))))))

-- versions 1 to 3
abbrev pub known_version : ℕ → Result ℕ ShapeRefused
known_version v = if nat_le 1 v && nat_le v 3 then Ok v else Err (refused.Version v)

-- the members of a document, in their order
abbrev pub doc_members : Data → Result DocMembers ShapeRefused
doc_members d =
    in_turn (ok_or (object d) (refused.Shape None member.Document)) (λ _.
    in_turn (in_turn (need None member.Version whole d) known_version) (λ version.
    in_turn (need None member.Points (list_of (pair text whole)) d) (λ points.
    in_turn (need None member.Links (list_of (pair text text)) d) (λ links.
    in_turn (need None member.Zones whole d) (λ zones.
    in_turn (need None member.Trains (list_of text) d) (λ trains.
    in_turn (need None member.Start (list_of whole) d) (λ start.
    in_turn (in_turn (need None member.Tables (list_of object) d) (each_from (table_members version) 0)) (λ tables.
    Ok (record { version = version; points = points; links = links; zones = zones; trains = trains; start = start; tables = tables })))))))))

-- the members of the document that the bytes are
abbrev pub members_of : List ℕ → Result DocMembers ShapeRefused
members_of bytes = in_turn (ok_or (reading bytes) refused.NotJson) doc_members

-- A member is there only where the version has it.
pub record IsOfVersion (version : ℕ) (t : TableMembers) : Type 0 where
  pub exits : version < 2 → t.exits ≡ None
  pub connections : version < 3 → t.connections ≡ None

-- The version is 1 to 3, and each table has just the members that it may have.
pub record IsRead (m : DocMembers) : Type 0 where
  pub first : 1 ≤ m.version
  pub last : m.version ≤ 3
  pub tables : All (IsOfVersion m.version) m.tables
