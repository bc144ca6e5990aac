-- A document whose certificates are made anew, and why it isn't.
use Rattle.std.specs.Prelude.{◌≡◌, ℕ, ◌<◌, ◌≤◌, List, length, Ok}
use Rattle.rail_model.specs.Certificate.{Tree, Accepts, preorder}
use Rattle.rail_model.specs.Move.{Stuck as IsStuck}
use Rattle.rail_model.specs.Table.{Table}
use Rattle.document_json.specs.Doc.{Doc, table_at}
use Rattle.document_json.specs.Reading.{doc_of}
use Rattle.document_json.specs.Replaced.{certified}
use Rattle.document_json.specs.Trees.{tree_at}
use Rattle.document_json.specs.Written.{written}
use Rattle.document_certificates.specs.declared.uncertified.Uncertified.{Uncertified}
use Rattle.document_certificates.specs.declared.uncertified.Uncertified.TheVariants.{Memory, Stuck, GaveUp}

-- The table accepts the tree, which has at most so many nodes.
abbrev pub AcceptsWithin : ℕ → Table → Tree → Type 0
AcceptsWithin budget T c = Accepts T c × (length (preorder c) ≤ budget)

-- There is a tree of at most so many nodes for each table, which accepts it.
pub record AcceptEach (D : Doc) (budget : ℕ) (trees : List Tree) : Type 0 where
  pub one_each : length trees ≡ length D.tables
  pub accepted : (t : ℕ) → t < length D.tables → AcceptsWithin budget (table_at D t) (tree_at trees t)

-- The text is the document with other certificates alone, which its tables accept, each of at most so many nodes; and it
-- reads back as that document.
pub record IsCertified (D : Doc) (budget : ℕ) (text : List ℕ) : Type 0 where
  pub trees : List Tree
  pub accepted : AcceptEach D budget trees
  pub is_text : text ≡ written (certified D trees)
  pub reads_back : doc_of text ≡ Ok (certified D trees)

-- Why a table with this number gets no certificate: a state of it is stuck, or all searches gave up, each after at most so
-- many nodes.
abbrev pub FailsFor : Table → ℕ → ℕ → Uncertified → Type 0
FailsFor T budget number Memory = Unit {0}
FailsFor T budget number (Stuck t p) = (t ≡ number) × IsStuck T p
FailsFor T budget number (GaveUp t nodes) = (t ≡ number) × (nodes ≤ budget)

-- Why a document gets no certificates: one of its tables gets none.
abbrev pub HasNone : Doc → ℕ → Uncertified → Type 0
HasNone D budget Memory = Unit {0}
HasNone D budget (Stuck t p) = (t < length D.tables) × IsStuck (table_at D t) p
HasNone D budget (GaveUp t nodes) = (t < length D.tables) × (nodes ≤ budget)
