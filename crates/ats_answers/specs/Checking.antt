-- What a check that ends well prints.
use Rattle.std.specs.Prelude.{◌≡◌, ℕ, List, ◌++◌, length, codes, decimal}
use Rattle.rail_model.specs.Certificate.{Tree, preorder}
use Rattle.rail_model.specs.Sums.{sum_below}
use Rattle.document_json.specs.Doc.{Doc}
use Rattle.document_json.specs.Trees.{tree_at}
use Rattle.accepted_documents.specs.Accepting.{AreAccepted}

-- the number of nodes of the first trees
abbrev pub nodes_below : List Tree → ℕ → ℕ
nodes_below trees n = sum_below (λ t. length (preorder (tree_at trees t))) n

abbrev pub checked_text : ℕ → ℕ → List ℕ
checked_text tables nodes = codes "accepted tables=" ++ decimal tables ++ codes " nodes=" ++ decimal nodes ++ codes "\n"

-- Each table accepts its certificate, and the bytes say how many tables and nodes there are.
pub record WritesChecked (D : Doc) (written : List ℕ) : Type 0 where
  pub trees : List Tree
  pub accepted : AreAccepted D trees
  pub printed : written ≡ checked_text (length D.tables) (nodes_below trees (length trees))
