-- A list of nodes has one verdict: it spells a tree, or it is refused for one cause.
use Rattle.std.proofs.Common.{◌≡◌, ℕ, suc, ◌+◌, ◌≤◌, List, [], ◌∷◌, ◌++◌, length, replicate, refl, sym, ◌∙◌, ap, arith, append_assoc, length-append}
use Rattle.std.proofs.lemmas.List.{length-replicate}
use Rattle.rail_model.specs.declared.types.Node.{Node}
use Rattle.rail_model.specs.declared.types.Node.TheVariants.{Split, Clash, Overfull, Arrived, Move}
use Rattle.rail_model.specs.Certificate.{Tree, clash, overfull, arrived, move, split, preorder}
use Rattle.cert_tree.specs.declared.reading.CertRefused.{CertRefused}
use Rattle.cert_tree.specs.declared.reading.CertRefused.TheVariants.{TooMany, Short, Over}
use Rattle.cert_tree.specs.Spelling.{most_nodes, forest_nodes, trees_of, first_tree, trees_of-preorder, tree_of-preorder}
use Rattle.cert_tree.specs.Refused.{IsMissing, IsLeftOver, IsRefused}

leaves : List Node → ℕ
leaves [] = 0
leaves (Split i m ∷ later) = leaves later
leaves (n ∷ later) = suc (leaves later)

splits : List Node → ℕ
splits [] = 0
splits (Split i m ∷ later) = suc (splits later)
splits (n ∷ later) = splits later

leaves-append : (xs ys : List Node) → leaves (xs ++ ys) ≡ leaves xs + leaves ys
unfolding leaves
leaves-append [] ys = omega arith
leaves-append (Split i m ∷ xs) ys = leaves-append xs ys
leaves-append (Clash i j ∷ xs) ys = omega (arith, leaves-append xs ys)
leaves-append (Overfull s ∷ xs) ys = omega (arith, leaves-append xs ys)
leaves-append (Arrived ∷ xs) ys = omega (arith, leaves-append xs ys)
leaves-append (Move i ∷ xs) ys = omega (arith, leaves-append xs ys)

splits-append : (xs ys : List Node) → splits (xs ++ ys) ≡ splits xs + splits ys
unfolding splits
splits-append [] ys = omega arith
splits-append (Split i m ∷ xs) ys = omega (arith, splits-append xs ys)
splits-append (Clash i j ∷ xs) ys = splits-append xs ys
splits-append (Overfull s ∷ xs) ys = splits-append xs ys
splits-append (Arrived ∷ xs) ys = splits-append xs ys
splits-append (Move i ∷ xs) ys = splits-append xs ys

-- a tree has one leaf more than splits
one_more : (t : Tree) → leaves (preorder t) ≡ splits (preorder t) + 1
unfolding leaves splits
one_more (clash i j) = refl
one_more (overfull s) = refl
one_more arrived = refl
one_more (move i) = refl
one_more (split i m a b) =
    omega (
      arith,
      one_more a,
      one_more b,
      leaves-append (preorder a) (preorder b),
      splits-append (preorder a) (preorder b),
    )

each_one_more : (ts : List Tree) → leaves (forest_nodes ts) ≡ splits (forest_nodes ts) + length ts
unfolding leaves splits
each_one_more [] = refl
each_one_more (t ∷ ts) =
    omega (
      arith,
      one_more t,
      each_one_more ts,
      leaves-append (preorder t) (forest_nodes ts),
      splits-append (preorder t) (forest_nodes ts),
    )

-- as many trees are missing as the splits want beside the leaves that are there
missing_is : (nodes : List Node) (n : ℕ) → IsMissing nodes n → leaves nodes + n ≡ splits nodes + 1
missing_is nodes n missing =
    let ts = replicate n arrived in
    let whole = missing ts (length-replicate n arrived) in
    omega (
      arith,
      one_more whole.0,
      ap leaves whole.1,
      ap splits whole.1,
      leaves-append nodes (forest_nodes ts),
      splits-append nodes (forest_nodes ts),
      each_one_more ts,
      length-replicate n arrived,
    )

same_missing : (nodes : List Node) (m n : ℕ) → IsMissing nodes m → IsMissing nodes n → m ≡ n
same_missing nodes m n one two = omega (arith, missing_is nodes m one, missing_is nodes n two)

-- a tree with nodes after it begins no other tree
first_is : (t u : Tree) (rest : List Node) → preorder t ++ rest ≡ preorder u → t ≡ u
first_is t u rest e = ap first_tree (sym (trees_of-preorder t rest)) ∙ ap (λ (ns : List Node). first_tree (trees_of ns)) e ∙ tree_of-preorder u

nothing_left : (t u : Tree) (rest : List Node) → preorder t ++ rest ≡ preorder u → length rest ≡ 0
nothing_left t u rest e =
    omega (arith, ap length e, ap (λ (x : Tree). length (preorder x)) (first_is t u rest e), length-append (preorder t) rest)

not_missing_and_over : (nodes : List Node) (n used : ℕ) → IsMissing nodes n → IsLeftOver nodes used → ⊥
not_missing_and_over nodes n used missing over =
    let ts = replicate n arrived in
    let whole = missing ts (length-replicate n arrived) in
    let e = sym (append_assoc (preorder over.0) over.1 (forest_nodes ts)) ∙ ap (λ (ns : List Node). ns ++ forest_nodes ts) (sym over.2) ∙ sym whole.1 in
    omega (arith, nothing_left over.0 whole.0 (over.1 ++ forest_nodes ts) e, length-append over.1 (forest_nodes ts), over.4)

same_over : (nodes : List Node) (m n : ℕ) → IsLeftOver nodes m → IsLeftOver nodes n → m ≡ n
same_over nodes m n one two =
    let first = ap first_tree (sym (trees_of-preorder one.0 one.1)) ∙ ap (λ (ns : List Node). first_tree (trees_of ns)) (sym one.2 ∙ two.2)
    ∙ ap first_tree (trees_of-preorder two.0 two.1) in
    sym one.3 ∙ ap (λ (t : Tree). length (preorder t)) first ∙ two.3

pub refused_not_spelled : (nodes : List Node) (e : CertRefused) (t : Tree) → IsRefused nodes e → preorder t ≡ nodes → length nodes ≤ most_nodes → ⊥
refused_not_spelled nodes (TooMany n) t r spelled few = omega (arith, r.1, few)
refused_not_spelled nodes (Short n) t r spelled few =
    omega (arith, r.1, missing_is nodes n r.2, one_more t, ap leaves spelled, ap splits spelled)
refused_not_spelled nodes (Over n) t r spelled few =
    omega (arith, nothing_left r.1.0 t r.1.1 (sym r.1.2 ∙ sym spelled), r.1.4)

pub one_refusal : (nodes : List Node) (e f : CertRefused) → IsRefused nodes e → IsRefused nodes f → e ≡ f
one_refusal nodes (TooMany m) (TooMany n) r k = let x = r.0 in let y = k.0 in cc
one_refusal nodes (TooMany m) (Short n) r k = absurd (omega (arith, r.1, k.0))
one_refusal nodes (TooMany m) (Over n) r k = absurd (omega (arith, r.1, k.0))
one_refusal nodes (Short m) (TooMany n) r k = absurd (omega (arith, k.1, r.0))
one_refusal nodes (Short m) (Short n) r k = ap (λ (x : ℕ). Short x) (same_missing nodes m n r.2 k.2)
one_refusal nodes (Short m) (Over n) r k = absurd (not_missing_and_over nodes m n r.2 k.1)
one_refusal nodes (Over m) (TooMany n) r k = absurd (omega (arith, k.1, r.0))
one_refusal nodes (Over m) (Short n) r k = absurd (not_missing_and_over nodes n m k.2 r.1)
one_refusal nodes (Over m) (Over n) r k = ap (λ (x : ℕ). Over x) (same_over nodes m n r.1 k.1)
