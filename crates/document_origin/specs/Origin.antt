-- When a document is of a plan, and else what differs first.
use Rattle.std.specs.Prelude.{◌≡◌, ◌≢◌, ℕ, ◌<◌, Bool, List, [], ◌++◌, length, map, Option, Some, None, slice_get, slice_index_or}
use Rattle.document_json.specs.Doc.{Doc, DocTable, doc_table, table_at}
use Rattle.rail_model.specs.Layout.{Layout, point_names}
use Rattle.rail_model.specs.Table.{Section, mission, trains}
use Rattle.document_origin.specs.declared.difference.Part.{Part}
use Rattle.document_origin.specs.declared.difference.Part.TheVariants.{Route, Exit, Times, Connections, After, Section as OfSection}
use Rattle.document_origin.specs.declared.difference.Difference.{Difference}
use Rattle.document_origin.specs.declared.difference.Difference.TheVariants.{Trains, Tables, Table as InTable, Start, Layout as OfLayout}

-- The sections begin with the plan's, unchanged.
abbrev pub BeginWith : List Section → List Section → Type 0
BeginWith planned sections = (added : List Section) × (sections ≡ planned ++ added)

-- A table of a document is of a plan's: all of it is the same but the certificate, and sections behind the plan's.
pub record IsTableOf (d p : DocTable) : Type 0 where
  pub missions : d.table.missions ≡ p.table.missions
  pub times : d.times ≡ p.times
  pub connections : d.table.connections ≡ p.table.connections
  pub after : d.after ≡ p.after
  pub sections : BeginWith p.table.sections d.table.sections

-- Document D is of the plan whose own document is P: all of it is the same but the version, certificates, and sections behind the plan's.
pub record IsOf (D P : Doc) : Type 0 where
  pub layout : D.layout ≡ P.layout
  pub trains : D.trains ≡ P.trains
  pub start : D.start ≡ P.start
  pub count : length D.tables ≡ length P.tables
  pub tables : (t : ℕ) → t < length P.tables → IsTableOf (doc_table D t) (doc_table P t)

-- ---- what differs first

-- the name of a point
abbrev pub point_in : Layout → ℕ → List ℕ
point_in L q = slice_index_or (point_names L) q []

-- the route of train i under table t, by the names of its points
abbrev pub route_at : Doc → ℕ → ℕ → List (List ℕ)
route_at D t i = map (point_in D.layout) (mission (table_at D t) i).points

-- whether it exits
abbrev pub exits_at : Doc → ℕ → ℕ → Bool
exits_at D t i = (mission (table_at D t) i).exits

-- its times
abbrev pub times_at : Doc → ℕ → ℕ → List ℕ
times_at D t i = slice_index_or (doc_table D t).times i []

-- Train i has the same route, exit and times under table t.
pub record GoesAlike (D P : Doc) (t i : ℕ) : Type 0 where
  pub route : route_at D t i ≡ route_at P t i
  pub exits : exits_at D t i ≡ exits_at P t i
  pub times : times_at D t i ≡ times_at P t i

-- The trains below n do.
abbrev pub GoAlike : Doc → Doc → ℕ → ℕ → Type 0
GoAlike D P t n = (i : ℕ) → i < n → GoesAlike D P t i

-- All trains go and wait alike under table t.
pub record WaitAlike (D P : Doc) (t : ℕ) : Type 0 where
  pub go : GoAlike D P t (trains (table_at P t))
  pub wait : (table_at D t).connections ≡ (table_at P t).connections

-- The first s sections are the plan's.
abbrev pub ShareAlike : List Section → List Section → ℕ → Type 0
ShareAlike sections planned s = (k : ℕ) → k < s → slice_get sections k ≡ slice_get planned k

-- Section s of the plan is the first that is missing or another.
pub record IsMissing (sections planned : List Section) (s : ℕ) : Type 0 where
  pub within : s < length planned
  pub alike : ShareAlike sections planned s
  pub other : slice_get sections s ≢ slice_get planned s

-- Table t is the same, by names, with sections behind the plan's or without.
pub record IsAlike (D P : Doc) (t : ℕ) : Type 0 where
  pub wait : WaitAlike D P t
  pub after : (doc_table D t).after ≡ (doc_table P t).after
  pub sections : BeginWith (table_at P t).sections (table_at D t).sections

-- This differs first under table t: train by train the route, the exit and the times; the connections; when the table is due; and the plan's
-- sections one by one.
abbrev pub IsFirstPart : Doc → Doc → ℕ → Part → Type 0
IsFirstPart D P t (Route i) = (i < trains (table_at P t)) × GoAlike D P t i × (route_at D t i ≢ route_at P t i)
IsFirstPart D P t (Exit i) =
    (i < trains (table_at P t)) × GoAlike D P t i × (route_at D t i ≡ route_at P t i) × (exits_at D t i ≢ exits_at P t i)
IsFirstPart D P t (Times i) =
    (i < trains (table_at P t)) × GoAlike D P t i × (route_at D t i ≡ route_at P t i) × (exits_at D t i ≡ exits_at P t i)
    × (times_at D t i ≢ times_at P t i)
IsFirstPart D P t Connections = GoAlike D P t (trains (table_at P t)) × ((table_at D t).connections ≢ (table_at P t).connections)
IsFirstPart D P t After = WaitAlike D P t × ((doc_table D t).after ≢ (doc_table P t).after)
IsFirstPart D P t (OfSection s) =
    WaitAlike D P t × ((doc_table D t).after ≡ (doc_table P t).after) × IsMissing (table_at D t).sections (table_at P t).sections s

-- Two documents have trains of the same names, and as many tables.
pub record HaveSameTables (D P : Doc) : Type 0 where
  pub trains : D.trains ≡ P.trains
  pub count : length D.tables ≡ length P.tables

-- Their tables below n are alike.
abbrev pub AreAlike : Doc → Doc → ℕ → Type 0
AreAlike D P n = (t : ℕ) → t < n → IsAlike D P t

-- This differs first between a document and a plan's own: the names of trains, how many tables there are, table by table, the start, and last
-- of all points, zones and links.
abbrev pub IsFirst : Doc → Doc → Difference → Type 0
IsFirst D P Trains = D.trains ≢ P.trains
IsFirst D P Tables = (D.trains ≡ P.trains) × (length D.tables ≢ length P.tables)
IsFirst D P (InTable t part) = HaveSameTables D P × (t < length P.tables) × AreAlike D P t × IsFirstPart D P t part
IsFirst D P Start = HaveSameTables D P × AreAlike D P (length P.tables) × (D.start ≢ P.start)
IsFirst D P OfLayout = HaveSameTables D P × AreAlike D P (length P.tables) × (D.start ≡ P.start) × (D.layout ≢ P.layout)

-- The document is of the plan; or this differs first.
abbrev pub IsCompared : Doc → Doc → Option Difference → Type 0
IsCompared D P None = IsOf D P
IsCompared D P (Some difference) = IsFirst D P difference

-- The tables are alike; or this differs first.
abbrev pub AreTablesCompared : Doc → Doc → Option Difference → Type 0
AreTablesCompared D P None = AreAlike D P (length P.tables)
AreTablesCompared D P (Some difference) = IsFirst D P difference

-- Table t is alike; or this differs first.
abbrev pub IsTableCompared : Doc → Doc → ℕ → Option Part → Type 0
IsTableCompared D P t None = IsAlike D P t
IsTableCompared D P t (Some part) = IsFirstPart D P t part

-- All trains go alike; or this differs first.
abbrev pub AreTrainsCompared : Doc → Doc → ℕ → Option Part → Type 0
AreTrainsCompared D P t None = GoAlike D P t (trains (table_at P t))
AreTrainsCompared D P t (Some part) = IsFirstPart D P t part

-- Train i goes alike; or this differs first, if the earlier ones go alike.
abbrev pub IsTrainCompared : Doc → Doc → ℕ → ℕ → Option Part → Type 0
IsTrainCompared D P t i None = GoesAlike D P t i
IsTrainCompared D P t i (Some part) = GoAlike D P t i → IsFirstPart D P t part

-- A document that differs is not of the plan.
abbrev pub DifferentDocumentsAreNone : Type 0
DifferentDocumentsAreNone = (D P : Doc) (difference : Difference) → IsFirst D P difference → IsOf D P → ⊥
