-- Whether bytes are a document whose tables accept their certificates.
use Rattle.std.specs.Prelude.{◌≡◌, ℕ, ◌<◌, List, length, Ok, Err}
use Rattle.rail_model.specs.declared.types.Bad.{Bad}
use Rattle.rail_model.specs.Certificate.{Tree, Accepts, FirstBad}
use Rattle.rail_model.specs.Table.{Table}
use Rattle.document_json.specs.Doc.{Doc, table_at}
use Rattle.document_json.specs.Trees.{tree_at, AreTrees, IsNoTree}
use Rattle.document_json.specs.Reading.{doc_of}
use Rattle.accepted_documents.specs.declared.refused.Unaccepted.{Unaccepted}
use Rattle.accepted_documents.specs.declared.refused.Unaccepted.TheVariants.{Memory, Document, Tree as NoTree, Certificate}

-- Each table accepts its tree.
pub record AreAccepted (D : Doc) (trees : List Tree) : Type 0 where
  pub are : AreTrees D trees
  pub accepted : (t : ℕ) → t < length D.tables → Accepts (table_at D t) (tree_at trees t)

-- Table t is the first that doesn't accept its tree; this is its first bad node.
pub record IsFirstBadTable (D : Doc) (trees : List Tree) (t : ℕ) (bad : Bad) : Type 0 where
  pub in_range : t < length D.tables
  pub earlier : (u : ℕ) → u < t → Accepts (table_at D u) (tree_at trees u)
  pub first_bad : FirstBad (table_at D t) (tree_at trees t) bad

-- The document's nodes spell trees, and table t is the first that doesn't accept its own.
abbrev pub IsBadTable : Doc → ℕ → Bad → Type 0
IsBadTable D t bad = (trees : List Tree) × AreTrees D trees × IsFirstBadTable D trees t bad

-- The bytes are a document, of which the fact holds.
abbrev pub IsDocWith : List ℕ → (Doc → Type 0) → Type 0
IsDocWith input P = (D : Doc) × (doc_of input ≡ Ok D) × P D

-- Why a table, which has this number, isn't taken with a tree: it doesn't accept it. There may be no memory at any
-- table.
abbrev pub Rejects : ℕ → Table → Tree → Unaccepted → Type 0
Rejects n T tree Memory = Unit {0}
Rejects n T tree (Certificate t bad) = (t ≡ n) × FirstBad T tree bad
Rejects n T tree e = ⊥

-- Why a document isn't taken with these trees: a table doesn't accept its own.
abbrev pub IsRejected : Doc → List Tree → Unaccepted → Type 0
IsRejected D trees Memory = Unit {0}
IsRejected D trees (Certificate t bad) = IsFirstBadTable D trees t bad
IsRejected D trees e = ⊥

-- Why a document isn't accepted: the first refusal in the order trees, certificates.
abbrev pub IsUncertified : Doc → Unaccepted → Type 0
IsUncertified D Memory = Unit {0}
IsUncertified D (NoTree t e) = IsNoTree D t e
IsUncertified D (Certificate t bad) = IsBadTable D t bad
IsUncertified D e = ⊥

-- Why bytes aren't accepted: they are no document; or it is refused, its trees before its certificates.
abbrev pub IsUnaccepted : List ℕ → Unaccepted → Type 0
IsUnaccepted input (Document e) = doc_of input ≡ Err e
IsUnaccepted input Memory = Unit {0}
IsUnaccepted input e = IsDocWith input (λ D. IsUncertified D e)
