-- The nodes in preorder, each with its box, as a walked with a stack of open boxes visits them.
use Rattle.std.proofs.Common.{◌≡◌, ℕ, ◌+◌, ◌<◌, ◌≤◌, List, [], ◌∷◌, ◌++◌, length, get_or, drop, refl, sym, ◌∙◌, ap, subst, arith, append_assoc, length-append, zero-add}
use Rattle.std.specs.Prelude.{All, Result, Ok, Err, OnOk, IfErr}
use Rattle.std.proofs.lemmas.List.{append-nil, drop_all, drop_more}
use Rattle.std.proofs.lemmas.List.Elements.{All-nil, All-push}
use Rattle.rail_model.specs.declared.types.Node.{Node}
use Rattle.rail_model.specs.declared.types.Node.TheVariants.{Split}
use Rattle.rail_model.specs.declared.types.Bad.{Bad}
use Rattle.rail_model.specs.Table.{Table}
use Rattle.rail_model.specs.Certificate.{Range, full_box, left_half, right_half, IsGood, Refuses, index_of, Tree, clash, overfull, arrived, move, split, preorder, visits, Accepts, FirstBad}
use Rattle.rail_model.proofs.Visits.{Visit, IsGoodVisit, shuts}
use Rattle.cert_tree.specs.Open.{opened}
use Rattle.cert_checker.specs.declared.faults.CheckFault.{CheckFault}
use Rattle.cert_checker.specs.declared.faults.CheckFault.TheVariants.{Memory, Bad as BadNode}
use Rattle.cert_checker.specs.Faults.{HasFault}
use Rattle.cert_checker.specs.Walked.{walked, StopsAt}

walk_tree : (c : Tree) (B : List Range) (Bs : List (List Range)) (later : List Node) → walked (B ∷ Bs) (preorder c ++ later) ≡ visits B c ++ walked Bs later
walk_tree (clash i j) B Bs later = refl
walk_tree (overfull s) B Bs later = refl
walk_tree arrived B Bs later = refl
walk_tree (move i) B Bs later = refl
walk_tree (split i m a b) B Bs later =
    ap (λ (vs : List Visit). (B, Split i m) ∷ vs)
    (ap (walked (left_half B i m ∷ right_half B i m ∷ Bs)) (append_assoc (preorder a) (preorder b) later)
    ∙ walk_tree a (left_half B i m) (right_half B i m ∷ Bs) (preorder b ++ later)
    ∙ ap (λ (vs : List Visit). visits (left_half B i m) a ++ vs) (walk_tree b (right_half B i m) Bs later)
    ∙ sym (append_assoc (visits (left_half B i m) a) (visits (right_half B i m) b) (walked Bs later)))

pub walk_whole : (c : Tree) (B : List Range) → walked (B ∷ []) (preorder c) ≡ visits B c
walk_whole c B = ap (walked (B ∷ [])) (sym (append-nil (preorder c))) ∙ walk_tree c B [] [] ∙ append-nil (visits B c)

pub length-visits : (B : List Range) (c : Tree) → length (visits B c) ≡ length (preorder c)
length-visits B (clash i j) = refl
length-visits B (overfull s) = refl
length-visits B arrived = refl
length-visits B (move i) = refl
length-visits B (split i m a b) =
    omega (
      arith,
      length-visits (left_half B i m) a,
      length-visits (right_half B i m) b,
      length-append (visits (left_half B i m) a) (visits (right_half B i m) b),
      length-append (preorder a) (preorder b),
    )

-- The nodes before the index are good, and the walked goes on from the open boxes.
pub record Pending (T : Table) (c : Tree) (index : ℕ) (boxes : List (List Range)) : Type 0 where
  pub front : List Visit
  pub behind : length front ≡ index
  pub visited : visits (full_box T) c ≡ front ++ walked boxes (drop index (preorder c))
  pub good : All (λ v. IsGood T v.0 v.1) front

pub start : (T : Table) (c : Tree) → Pending T c 0 (full_box T ∷ [])
start T c = record { front = []; behind = refl; visited = sym (walk_whole c (full_box T)); good = All-nil (IsGoodVisit T) }

-- the next visit is of the node at the index in the first open box
next : (T : Table) (c : Tree) (index : ℕ) (B : List Range) (Bs : List (List Range)) (n : Node) (later : List Node) (p : Pending T c index (B ∷ Bs))
    → drop index (preorder c) ≡ n ∷ later → visits (full_box T) c ≡ p.front ++ ((B, n) ∷ walked (opened B n Bs) later)
next T c index B Bs n later p here = p.visited ∙ ap (λ (ns : List Node). p.front ++ walked (B ∷ Bs) ns) here

-- a good node was visited
pub passed : (T : Table) (c : Tree) (index : ℕ) (B : List Range) (Bs : List (List Range)) (n : Node) → Pending T c index (B ∷ Bs)
    → drop index (preorder c) ≡ n ∷ drop (index + 1) (preorder c) → IsGood T B n → Pending T c (index + 1) (opened B n Bs)
passed T c index B Bs n p here good = record {
  front = p.front ++ (B, n) ∷ [];
  behind = omega (arith, p.behind, length-append p.front ((B, n) ∷ []));
  visited = next T c index B Bs n _ p here ∙ sym (append_assoc p.front ((B, n) ∷ []) (walked (opened B n Bs) (drop (index + 1) (preorder c))));
  good = All-push (IsGoodVisit T) p.front (B, n) p.good good;
}

-- a refused node is the first bad one
pub stopped : (T : Table) (c : Tree) (index : ℕ) (B : List Range) (Bs : List (List Range)) (n : Node) (e : Bad) → Pending T c index (B ∷ Bs)
    → drop index (preorder c) ≡ n ∷ drop (index + 1) (preorder c) → Refuses T B n e → index_of e ≡ index → FirstBad T c e
stopped T c index B Bs n e p here refused at = record {
  box = B;
  node = n;
  front = p.front;
  rest = walked (opened B n Bs) (drop (index + 1) (preorder c));
  spelled = next T c index B Bs n _ p here;
  index = at ∙ sym p.behind;
  earlier = p.good;
  refused = refused;
}

walk_nil : (boxes : List (List Range)) → walked boxes [] ≡ []
walk_nil [] = refl
walk_nil (B ∷ Bs) = refl

-- when all nodes were visited, the certificate is accepted
pub ended : (T : Table) (c : Tree) (index : ℕ) (boxes : List (List Range)) → Pending T c index boxes → length (preorder c) ≤ index → Accepts T c
ended T c index boxes p all =
    let none : walked boxes (drop index (preorder c)) ≡ [] = ap (walked boxes) (drop_all index (preorder c) all) ∙ walk_nil boxes in
    let whole : p.front ≡ visits (full_box T) c = sym (append-nil p.front) ∙ ap (λ (vs : List Visit). p.front ++ vs) (sym none) ∙ sym p.visited in
    shuts T c (full_box T) (subst (λ (vs : List Visit). All (λ v. IsGood T v.0 v.1) vs) whole p.good)

-- while nodes are left, a box is open
pub is_open : (T : Table) (c : Tree) (index : ℕ) → Pending T c index [] → index < length (preorder c) → ⊥
is_open T c index p more =
    omega (arith, ap length p.visited, length-append p.front [], p.behind, length-visits (full_box T) c)

-- the node at an index, of a list that is the preorder
pub node_here : (nodes spelled : List Node) (index : ℕ) → nodes ≡ spelled → index < length nodes
    → drop index spelled ≡ get_or nodes index (Split 0 0) ∷ drop (index + 1) spelled
node_here nodes spelled index same lt =
    subst (λ (ns : List Node). drop index ns ≡ get_or nodes index (Split 0 0) ∷ drop (index + 1) ns) same (drop_more nodes index (Split 0 0) lt)

-- where all visits are good, the certificate is accepted
pub all_accepted : (T : Table) (c : Tree) (visited : List Visit) → visited ≡ visits (full_box T) c → All (λ v. IsGood T v.0 v.1) visited → Accepts T c
all_accepted T c visited same good = shuts T c (full_box T) (subst (λ (vs : List Visit). All (λ v. IsGood T v.0 v.1) vs) same good)

-- the first bad visit is the first bad node
pub first_bad_visit : (T : Table) (c : Tree) (visited : List Visit) (e : CheckFault) → visited ≡ visits (full_box T) c → StopsAt T visited 0 e → HasFault T c e
first_bad_visit T c visited Memory same bad = tt
first_bad_visit T c visited (BadNode e) same bad = record {
  box = bad.box;
  node = bad.node;
  front = bad.front;
  rest = bad.rest;
  spelled = sym same ∙ bad.spelled;
  index = bad.index ∙ zero-add (length bad.front);
  earlier = bad.earlier;
  refused = bad.refused;
}

-- what the visits answer is what the certificate answers
pub visits_answer : (T : Table) (c : Tree) (visited : List Visit) (answer : Result (Unit {0}) CheckFault) → visited ≡ visits (full_box T) c
    → OnOk answer (All (λ v. IsGood T v.0 v.1) visited) → IfErr answer (StopsAt T visited 0)
    → OnOk answer (Accepts T c) × IfErr answer (HasFault T c)
visits_answer T c visited (Ok u) same good bad = (all_accepted T c visited same good, tt)
visits_answer T c visited (Err e) same good bad = (tt, first_bad_visit T c visited e same bad)
