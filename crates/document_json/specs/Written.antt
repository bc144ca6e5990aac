-- The text of a document.
use Rattle.std.specs.Prelude.{ℕ, ◌<◌, List, length, All, String, string_bytes}
use Rattle.std.specs.declared.alloc.Global.{Global}
use Rattle.rail_model.specs.Layout.{Point, Link}
use Rattle.rail_model.specs.Names.{Names, point_name}
use Rattle.rail_model.specs.Table.{Mission}
use Rattle.document_shapes.specs.Written.{text_of}
use Rattle.document_json.specs.Doc.{Doc}
use Rattle.document_json.specs.Members.{members_in}

-- the text that is written of a document: compact JSON, members in the byte order of their names, and a newline
abbrev pub written : Doc → List ℕ
written D = text_of (members_in D)

-- Each point of the way has a name.
abbrev pub AreNamed : Names → Mission → Type 0
AreNamed N m = All (λ q. q < length N.points) m.points

-- Both points of the link have names.
abbrev pub JoinsNamed : Names → Link → Type 0
JoinsNamed N l = (l.first < length N.points) × (l.second < length N.points)

-- a point's name and zone, and the names of a link's points
abbrev pub point_pair : Point → List ℕ × ℕ
point_pair q = (q.name, q.zone)

abbrev pub link_pair : Names → Link → List ℕ × List ℕ
link_pair N l = (point_name N l.first, point_name N l.second)

-- the same, as they were made
abbrev pub point_seen : String Global × ℕ → List ℕ × ℕ
point_seen p = (string_bytes p.0, p.1)

abbrev pub link_seen : String Global × String Global → List ℕ × List ℕ
link_seen l = (string_bytes l.0, string_bytes l.1)
