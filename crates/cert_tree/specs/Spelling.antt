-- Which tree a list of nodes spells, and how many trees are wanted while it is read.
use Rattle.std.specs.Prelude.{◌≡◌, ℕ, ◌+◌, ◌-◌, List, [], ◌∷◌, ◌++◌, refl}
use Rattle.std.proofs.Common.{sym, ap, ◌∙◌, append_assoc}
use Rattle.std.proofs.lemmas.List.{append-nil}
use Rattle.rail_model.specs.declared.types.Node.{Node}
use Rattle.rail_model.specs.declared.types.Node.TheVariants.{Split, Clash, Overfull, Arrived, Move}
use Rattle.rail_model.specs.Certificate.{Tree, clash, overfull, arrived, move, split, preorder}

-- the greatest number of nodes
abbrev pub most_nodes : ℕ
most_nodes = 1000000

-- a node before trees, of which a split takes two
abbrev pub put : Node → List Tree → List Tree
put (Split i m) (a ∷ b ∷ later) = split i m a b ∷ later
put (Split i m) later = later
put (Clash i j) later = clash i j ∷ later
put (Overfull s) later = overfull s ∷ later
put Arrived later = arrived ∷ later
put (Move i) later = move i ∷ later

-- the trees that a list of nodes spells, one after the other
abbrev pub trees_of : List Node → List Tree
trees_of [] = []
trees_of (n ∷ later) = put n (trees_of later)

-- the first of the trees
abbrev pub first_tree : List Tree → Tree
first_tree [] = arrived
first_tree (t ∷ later) = t

-- the tree of which the list is the preorder, if there is one
abbrev pub tree_of : List Node → Tree
tree_of nodes = first_tree (trees_of nodes)

-- the nodes of trees, one tree after the other
abbrev pub forest_nodes : List Tree → List Node
forest_nodes [] = []
forest_nodes (t ∷ later) = preorder t ++ forest_nodes later

-- how many trees are wanted after a node
abbrev pub wanted_behind : Node → ℕ → ℕ
wanted_behind (Split i m) wanted = wanted + 1
wanted_behind _ wanted = wanted - 1

-- The certificate's view rests on the two laws below: they are here for that.
pub trees_of-preorder : (t : Tree) (later : List Node) → trees_of (preorder t ++ later) ≡ t ∷ trees_of later
trees_of-preorder (clash i j) later = refl
trees_of-preorder (overfull s) later = refl
trees_of-preorder arrived later = refl
trees_of-preorder (move i) later = refl
trees_of-preorder (split i m a b) later =
    ap (put (Split i m))
    (ap trees_of (append_assoc (preorder a) (preorder b) later)
    ∙ trees_of-preorder a (preorder b ++ later)
    ∙ ap (λ (ts : List Tree). a ∷ ts) (trees_of-preorder b later))

pub tree_of-preorder : (t : Tree) → tree_of (preorder t) ≡ t
tree_of-preorder t = ap tree_of (sym (append-nil (preorder t))) ∙ ap first_tree (trees_of-preorder t [])
