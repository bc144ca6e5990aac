-- Worked rows: the definitions computed on short lists.
use Rattle.std.proofs.Common.{◌≡◌, List, [], ◌∷◌, length, refl, sym, lit<, lit≤, arith}
use Rattle.rail_model.specs.declared.types.Node.TheVariants.{Split, Arrived, Move}
use Rattle.rail_model.specs.Certificate.{Tree, split, move, arrived}
use Rattle.cert_tree.specs.declared.reading.CertRefused.TheVariants.{TooMany, Short, Over}
use Rattle.cert_tree.specs.Refused.{IsMissing, IsRefused}
use Rattle.cert_tree.specs.Spelling.{put, trees_of, first_tree, tree_of, forest_nodes, wanted_behind, most_nodes}
use Rattle.cert_tree.specs.Code.{numbers, node_of}
use Rattle.cert_tree.proofs.Spell.{start, next}

-- the first path: one train, one move, arrived
abbrev first_path : Tree
first_path = split 0 0 (move 0) arrived

spelled : tree_of (Split 0 0 ∷ Move 0 ∷ Arrived ∷ []) ≡ first_path
spelled = refl

two_trees : trees_of (Move 0 ∷ Arrived ∷ []) ≡ move 0 ∷ arrived ∷ []
two_trees = refl

halves : put (Split 0 0) (move 0 ∷ arrived ∷ []) ≡ first_path ∷ []
halves = refl

first : first_tree (move 0 ∷ arrived ∷ []) ≡ move 0
first = refl

forest : forest_nodes (first_path ∷ arrived ∷ []) ≡ Split 0 0 ∷ Move 0 ∷ Arrived ∷ Arrived ∷ []
forest = refl

split_wants_one_more : wanted_behind (Split 0 0) 1 ≡ 2
split_wants_one_more = refl

leaf_ends_one : wanted_behind Arrived 2 ≡ 1
leaf_ends_one = refl

coded : node_of (numbers (Split 3 5)) ≡ Split 3 5
coded = refl

-- after a split and its left half the right half is missing
one_missing : IsMissing (Split 0 0 ∷ Move 0 ∷ []) 1
one_missing = next (Split 0 0 ∷ []) (Move 0) 2 (lit< tt) (next [] (Split 0 0) 1 (lit< tt) start)

short : IsRefused (Split 0 0 ∷ Move 0 ∷ []) (Short 1)
short = (lit≤ tt, lit< tt, one_missing)

over : IsRefused (Arrived ∷ Arrived ∷ Arrived ∷ []) (Over 1)
over = (lit≤ tt, (arrived, Arrived ∷ Arrived ∷ [], refl, refl, lit< tt))

too_many : (nodes : List _) → length nodes ≡ 1000001 → IsRefused nodes (TooMany 1000001)
too_many nodes long = (sym long, omega (arith, long))

limit : most_nodes ≡ 1000000
limit = refl
