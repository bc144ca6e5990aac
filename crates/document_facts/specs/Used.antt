-- Which points, links and zones of a layout missions use.
use Rattle.std.specs.Prelude.{◌≡◌, ◌⊎◌, ◌<◌, ◌+◌, ℕ, List, length, slice_index, slice_index_or, Contains}
use Rattle.rail_model.specs.Layout.{Layout, Link, zone}
use Rattle.rail_model.specs.Table.{Table, trains, mission}
use Rattle.document_json.specs.Doc.{Doc, table_at}

-- a link by its number
abbrev pub link_at : Layout → ℕ → Link
link_at L k = slice_index_or L.links k (record { first = 0; second = 0 })

-- The link leads to the point.
abbrev pub LeadsTo : Link → ℕ → Type 0
LeadsTo link q = (link.first ≡ q) ⊎ (link.second ≡ q)

-- Some link leads to the point.
abbrev pub IsJoined : Layout → ℕ → Type 0
IsJoined L q = (k : ℕ) × (k < length L.links) × LeadsTo (link_at L k) q

-- The mission of some train of the table comes to the point.
abbrev pub Visits : Table → ℕ → Type 0
Visits T q = (i : ℕ) × (i < trains T) × Contains (mission T i).points q

-- Under some table a mission comes to the point.
abbrev pub IsVisited : Doc → ℕ → Type 0
IsVisited D q = (t : ℕ) × (t < length D.tables) × Visits (table_at D t) q

-- The link joins the two points, in one direction or the other.
abbrev pub Joins : Link → ℕ → ℕ → Type 0
Joins link a b = ((link.first ≡ a) × (link.second ≡ b)) ⊎ ((link.first ≡ b) × (link.second ≡ a))

-- Points go along the link: at some place they come to one of its ends, and at the next place to the other.
abbrev pub GoAlong : List ℕ → Link → Type 0
GoAlong points link = (k : ℕ) × (k + 1 < length points) × Joins link (slice_index points k) (slice_index points (k + 1))

-- The mission of some train of the table goes along the link.
abbrev pub Uses : Table → Link → Type 0
Uses T link = (i : ℕ) × (i < trains T) × GoAlong (mission T i).points link

-- Under some table a mission goes along the link.
abbrev pub IsUsed : Doc → Link → Type 0
IsUsed D link = (t : ℕ) × (t < length D.tables) × Uses (table_at D t) link

-- No mission goes along the link of this number.
abbrev pub IsUnusedLink : Doc → ℕ → Type 0
IsUnusedLink D k = IsUsed D (link_at D.layout k) → ⊥

-- The point is in the zone, and a mission comes to it.
abbrev pub IsEnteredAt : Doc → ℕ → ℕ → Type 0
IsEnteredAt D z q = (zone D.layout q ≡ z) × IsVisited D q

-- A mission comes to some point of the zone.
abbrev pub IsEntered : Doc → ℕ → Type 0
IsEntered D z = (q : ℕ) × (q < length D.layout.points) × IsEnteredAt D z q
