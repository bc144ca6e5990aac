-- What a document keeps inside.
use Rattle.std.specs.Prelude.{◌≡◌, ℕ, ◌≤◌, List, [], ◌∷◌, length, Ok}
use Rattle.rail_model.specs.declared.types.Node.{Node}
use Rattle.rail_model.specs.Layout.{Layout}
use Rattle.rail_model.specs.Names.{Names}
use Rattle.rail_model.specs.Table.{Table}
use Rattle.document_shapes.specs.Raw.{DocMembers}
use Rattle.document_json.specs.Doc.{Doc, DocTable, IsDoc, names_of}
use Rattle.document_json.specs.Members.{members_in}
use Rattle.document_json.specs.Reading.{doc_from}

-- A table without its travel times.
pub record Untimed : Type 0 where
  pub table : Table
  pub after : ℕ
  pub nodes : List Node

-- a table of a document without its times
abbrev pub untimed : DocTable → Untimed
untimed t = record { table = t.table; after = t.after; nodes = t.nodes }

-- a table with its times
abbrev pub with_times : Untimed → List (List ℕ) → DocTable
with_times t times = record { table = t.table; after = t.after; times = times; nodes = t.nodes }

-- each table with its times
abbrev pub timed : List Untimed → List (List (List ℕ)) → List DocTable
timed (t ∷ ts) (times ∷ later) = with_times t times ∷ timed ts later
timed _ _ = []

-- the document of these parts
abbrev pub doc_of_parts : ℕ → Layout → Names → List Untimed → List (List (List ℕ)) → List ℕ → Doc
doc_of_parts version L N tables times start =
    record { version = version; layout = L; trains = N.trains; tables = timed tables times; start = start }

-- Nothing of the document's own members is refused.
abbrev pub IsTaken : Doc → Type 0
IsTaken D = doc_from (members_in D) ≡ Ok D

-- The members are those of a document that is taken.
pub record AreMembersOf (D : Doc) (m : DocMembers) : Type 0 where
  pub are : m ≡ members_in D
  pub first : 1 ≤ D.version
  pub last : D.version ≤ 3
  pub taken : IsTaken D

-- The parts of a document that is taken.
pub record HasParts (version : ℕ) (L : Layout) (N : Names) (tables : List Untimed) (times : List (List (List ℕ))) (start : List ℕ) : Type 0 where
  pub first : 1 ≤ version
  pub last : version ≤ 3
  pub named : N ≡ names_of (doc_of_parts version L N tables times start)
  pub each_timed : length tables ≡ length times
  pub is : IsDoc (doc_of_parts version L N tables times start)
  pub taken : IsTaken (doc_of_parts version L N tables times start)
