-- The certificates of a document: the trees that its nodes spell.
use Rattle.std.specs.Prelude.{◌≡◌, ℕ, ◌<◌, ◌≤◌, List, length, slice_index_or}
use Rattle.rail_model.specs.Certificate.{Tree, arrived, preorder}
use Rattle.cert_tree.specs.declared.reading.CertRefused.{CertRefused}
use Rattle.cert_tree.specs.Refused.{IsRefused}
use Rattle.cert_tree.specs.Spelling.{most_nodes}
use Rattle.document_json.specs.declared.spelling.TreeRefused.{TreeRefused}
use Rattle.document_json.specs.declared.spelling.TreeRefused.TheVariants.{Memory, Tree as NoTree}
use Rattle.document_json.specs.Doc.{Doc, nodes_at}

abbrev pub tree_at : List Tree → ℕ → Tree
tree_at trees t = slice_index_or trees t arrived

-- The tree is spelled by the nodes of table t, which are few enough.
abbrev pub IsTreeOf : Doc → ℕ → Tree → Type 0
IsTreeOf D t tree = (preorder tree ≡ nodes_at D t) × (length (nodes_at D t) ≤ most_nodes)

-- A tree for each table.
pub record AreTrees (D : Doc) (trees : List Tree) : Type 0 where
  pub one_each : length trees ≡ length D.tables
  pub spelled : (t : ℕ) → t < length D.tables → IsTreeOf D t (tree_at trees t)

-- The nodes of table t are the first that spell no tree, for this cause.
pub record IsNoTree (D : Doc) (t : ℕ) (cause : CertRefused) : Type 0 where
  pub in_range : t < length D.tables
  pub earlier : (u : ℕ) → u < t → (tree : Tree) × IsTreeOf D u tree
  pub refused : IsRefused (nodes_at D t) cause

-- Why there is no tree for each table; there may be no memory at any document.
abbrev pub TreesRefused : Doc → TreeRefused → Type 0
TreesRefused D Memory = Unit {0}
TreesRefused D (NoTree t cause) = IsNoTree D t cause
