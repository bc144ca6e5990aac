-- A document with other tables, or with other certificates.
use Rattle.std.specs.Prelude.{◌≡◌, ◌<◌, ◌≤◌, ◌≤ℤ◌, ℕ, pos, List, [], ◌∷◌, length, slice_index_or}
use Rattle.rail_model.specs.Certificate.{Tree, preorder, arrived}
use Rattle.rail_model.specs.State.{Legal}
use Rattle.rail_model.specs.Table.{Table, IsTable, trains, last, limit, share}
use Rattle.document_json.specs.Doc.{Doc, DocTable, table_at}

-- each table with what takes the place of a part of it
abbrev pub each_with : {X : Type 0} → (DocTable → X → DocTable) → List DocTable → List X → List DocTable
each_with f (t ∷ ts) (x ∷ xs) = f t x ∷ each_with f ts xs
each_with f _ _ = []

-- another table with its certificate; when it is due and the travel times stay
abbrev pub exchanged : DocTable → Table × Tree → DocTable
exchanged t p = record t { table = p.0; nodes = preorder p.1 }

-- the table with another certificate
abbrev pub recertified : DocTable → Tree → DocTable
recertified t c = record t { nodes = preorder c }

-- the document with these tables and certificates, all else equal
abbrev pub replaced : Doc → List (Table × Tree) → Doc
replaced D parts = record D { tables = each_with exchanged D.tables parts }

-- the document with these certificates, all else equal
abbrev pub certified : Doc → List Tree → Doc
certified D certs = record D { tables = each_with recertified D.tables certs }

-- the table that comes with a number
abbrev pub new_table : List (Table × Tree) → ℕ → Table
new_table parts t = (slice_index_or parts t (record { missions = []; sections = []; connections = [] }, arrived)).0

-- Limits of at most 32, and no train weighs more than 1.
pub record IsLight (T : Table) : Type 0 where
  pub limits : (s : ℕ) → s < length T.sections → limit T s ≤ 32
  pub shares : (s i k : ℕ) → s < length T.sections → i < trains T → k ≤ last T i → share T i s k ≤ℤ pos 1

-- Each table has the missions and the connections of the document's own, and light sections; the start is legal.
pub record IsRemarked (D : Doc) (parts : List (Table × Tree)) : Type 0 where
  pub one_each : length parts ≡ length D.tables
  pub missions : (t : ℕ) → t < length D.tables → (new_table parts t).missions ≡ (table_at D t).missions
  pub connections : (t : ℕ) → t < length D.tables → (new_table parts t).connections ≡ (table_at D t).connections
  pub formed : (t : ℕ) → t < length D.tables → IsTable (new_table parts t)
  pub light : (t : ℕ) → t < length D.tables → IsLight (new_table parts t)
  pub start : Legal (new_table parts 0) D.start
