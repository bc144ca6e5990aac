-- A tree as numbers, three for each node of its preorder.
use Rattle.std.specs.Prelude.{◌≡◌, ℕ, zero, suc, List, [], ◌∷◌, map, refl}
use Rattle.std.proofs.Common.{ap, ◌∙◌}
use Rattle.std.specs.Coded.{Coded, code_by, coded×, coded_list, coded_ℕ}
use Rattle.rail_model.specs.declared.types.Node.{Node}
use Rattle.rail_model.specs.declared.types.Node.TheVariants.{Split, Clash, Overfull, Arrived, Move}
use Rattle.rail_model.specs.Certificate.{Tree, preorder}
use Rattle.cert_tree.specs.Spelling.{tree_of, tree_of-preorder}

-- a node's form and its two numbers
abbrev pub numbers : Node → ℕ × (ℕ × ℕ)
numbers (Split i m) = (0, (i, m))
numbers (Clash i j) = (1, (i, j))
numbers (Overfull s) = (2, (s, 0))
numbers Arrived = (3, (0, 0))
numbers (Move i) = (4, (i, 0))

-- the node of a form with two numbers
abbrev pub form : ℕ → ℕ → ℕ → Node
form zero i m = Split i m
form (suc zero) i m = Clash i m
form (suc (suc zero)) i m = Overfull i
form (suc (suc (suc zero))) i m = Arrived
form (suc (suc (suc (suc k)))) i m = Move i

-- the node with these numbers
abbrev pub node_of : ℕ × (ℕ × ℕ) → Node
node_of w = form w.0 w.1.0 w.1.1

node_back : (n : Node) → node_of (numbers n) ≡ n
node_back (Split i m) = refl
node_back (Clash i j) = refl
node_back (Overfull s) = refl
node_back Arrived = refl
node_back (Move i) = refl

nodes_back : (ns : List Node) → map node_of (map numbers ns) ≡ ns
nodes_back [] = refl
nodes_back (n ∷ later) =
    ap (λ (x : Node). x ∷ map node_of (map numbers later)) (node_back n) ∙ ap (λ (xs : List Node). n ∷ xs) (nodes_back later)

pub tree_back : (t : Tree) → tree_of (map node_of (map numbers (preorder t))) ≡ t
tree_back t = ap tree_of (nodes_back (preorder t)) ∙ tree_of-preorder t

-- how contracts compare trees
abbrev pub tree_code : Coded Tree
tree_code =
    code_by (List (ℕ × (ℕ × ℕ))) (coded_list (coded× coded_ℕ (coded× coded_ℕ coded_ℕ)))
    (λ t. map numbers (preorder t)) (λ ns. tree_of (map node_of ns)) tree_back
