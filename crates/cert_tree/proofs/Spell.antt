-- Which lists of nodes spell a tree, counted by how many trees are still wanted.
use Rattle.std.proofs.Common.{◌≡◌, ℕ, ◌+◌, ◌-◌, ◌<◌, List, [], ◌∷◌, ◌++◌, refl, sym, ◌∙◌, ap, subst, arith, append_assoc}
use Rattle.std.proofs.lemmas.List.{append-nil}
use Rattle.rail_model.specs.declared.types.Node.{Node}
use Rattle.rail_model.specs.declared.types.Node.TheVariants.{Split, Clash, Overfull, Arrived, Move}
use Rattle.rail_model.specs.Certificate.{Tree, clash, overfull, arrived, move, split, preorder}
use Rattle.cert_tree.specs.Spelling.{forest_nodes, tree_of, tree_of-preorder, wanted_behind}
use Rattle.cert_tree.specs.Refused.{IsMissing}

-- a list that some tree has as its preorder
abbrev IsSpelling : List Node → Type 0
IsSpelling nodes = (t : Tree) × (preorder t ≡ nodes)

pub start : IsMissing [] 1
start [] size = absurd (omega arith)
start (t ∷ []) size = (t, sym (append-nil (preorder t)))
start (t ∷ u ∷ ts) size = absurd (omega arith)

behind_leaf : (front : List Node) (t : Tree) (n : Node) (wanted : ℕ) → preorder t ≡ n ∷ [] → 0 < wanted → IsMissing front wanted → IsMissing (front ++ n ∷ []) (wanted - 1)
behind_leaf front t n wanted is some missing ts size =
    subst IsSpelling (ap (λ (ns : List Node). front ++ (ns ++ forest_nodes ts)) is ∙ sym (append_assoc front (n ∷ []) (forest_nodes ts)))
    (missing (t ∷ ts) (omega arith))

behind_split : (front : List Node) (i m wanted : ℕ) → 0 < wanted → IsMissing front wanted → IsMissing (front ++ Split i m ∷ []) (wanted + 1)
behind_split front i m wanted some missing [] size = absurd (omega arith)
behind_split front i m wanted some missing (a ∷ []) size = absurd (omega arith)
behind_split front i m wanted some missing (a ∷ b ∷ ts) size =
    subst IsSpelling
    (ap (λ (ns : List Node). front ++ (Split i m ∷ ns)) (append_assoc (preorder a) (preorder b) (forest_nodes ts))
    ∙ sym (append_assoc front (Split i m ∷ []) (preorder a ++ (preorder b ++ forest_nodes ts))))
    (missing (split i m a b ∷ ts) (omega arith))

pub next : (front : List Node) (n : Node) (wanted : ℕ) → 0 < wanted → IsMissing front wanted → IsMissing (front ++ n ∷ []) (wanted_behind n wanted)
next front (Split i m) wanted some missing = behind_split front i m wanted some missing
next front (Clash i j) wanted some missing = behind_leaf front (clash i j) (Clash i j) wanted refl some missing
next front (Overfull s) wanted some missing = behind_leaf front (overfull s) (Overfull s) wanted refl some missing
next front Arrived wanted some missing = behind_leaf front arrived Arrived wanted refl some missing
next front (Move i) wanted some missing = behind_leaf front (move i) (Move i) wanted refl some missing

-- where no tree is wanted, the list spells one
pub spelled : (nodes : List Node) (wanted : ℕ) → IsMissing nodes wanted → wanted ≡ 0 → (t : Tree) × (preorder t ≡ nodes)
spelled nodes wanted missing none = subst IsSpelling (append-nil nodes) (missing [] (sym none))

-- the list is the preorder of the tree that is read from it
pub read_back : (nodes : List Node) (wanted : ℕ) → IsMissing nodes wanted → wanted ≡ 0 → preorder (tree_of nodes) ≡ nodes
read_back nodes wanted missing none =
    let s = spelled nodes wanted missing none in
    ap preorder (ap tree_of (sym s.1) ∙ tree_of-preorder s.0) ∙ s.1

pub one_tree : (c d : Tree) → preorder c ≡ preorder d → c ≡ d
one_tree c d same = sym (tree_of-preorder c) ∙ ap tree_of same ∙ tree_of-preorder d

pub small_behind : (n : Node) (wanted : ℕ) → wanted_behind n wanted < wanted + 2
small_behind (Split i m) wanted = omega arith
small_behind _ wanted = omega arith
