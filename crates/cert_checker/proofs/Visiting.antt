-- The walk from the first node of a tree on: what was visited is good, and the open boxes are ahead.
use Rattle.std.proofs.Common.{◌≡◌, ℕ, ◌+◌, List, [], ◌∷◌, ◌++◌, Bool, false, length, reverse, drop, sym, ◌∙◌, ap, subst, arith, append_assoc, length-append}
use Rattle.std.specs.Prelude.{All}
use Rattle.std.proofs.lemmas.List.{append-nil}
use Rattle.std.proofs.lemmas.List.Elements.{All-push}
use Rattle.rail_model.specs.declared.types.Node.{Node}
use Rattle.rail_model.specs.declared.types.Bad.{Bad}
use Rattle.rail_model.specs.Table.{Table}
use Rattle.rail_model.specs.Certificate.{Range, IsGood, Refuses, index_of}
use Rattle.rail_model.proofs.Visits.{Visit, IsGoodVisit}
use Rattle.cert_checker.specs.declared.walk.Step.{Step}
use Rattle.cert_tree.specs.Open.{opened}
use Rattle.cert_checker.specs.Walked.{walked, waiting, shown, IsFirstBad, IsRefusal, StopsAt}
use Rattle.cert_checker.specs.declared.faults.CheckFault.{CheckFault}
use Rattle.cert_checker.specs.declared.faults.CheckFault.TheVariants.{Memory, Bad as BadNode}

pub record Visiting (T : Table) (nodes : List Node) (first index : ℕ) (B : List Range) (boxes : List (List Range)) : Type 0 where
  pub front : List Visit
  pub behind : first + length front ≡ index
  pub visited : walked (B ∷ []) (drop first nodes) ≡ front ++ walked boxes (drop index nodes)
  pub good : All (λ v. IsGood T v.0 v.1) front

next : (T : Table) (nodes : List Node) (first index : ℕ) (B C : List Range) (Cs : List (List Range)) (n : Node) (later : List Node) (v : Visiting T nodes first index B (C ∷ Cs))
    → drop index nodes ≡ n ∷ later → walked (B ∷ []) (drop first nodes) ≡ v.front ++ ((C, n) ∷ walked (opened C n Cs) later)
next T nodes first index B C Cs n later v here = v.visited ∙ ap (λ (ns : List Node). v.front ++ walked (C ∷ Cs) ns) here

-- a good node was visited
pub passed : (T : Table) (nodes : List Node) (first index : ℕ) (B C : List Range) (Cs : List (List Range)) (n : Node) → Visiting T nodes first index B (C ∷ Cs)
    → drop index nodes ≡ n ∷ drop (index + 1) nodes → IsGood T C n → Visiting T nodes first (index + 1) B (opened C n Cs)
passed T nodes first index B C Cs n v here good = record {
  front = v.front ++ (C, n) ∷ [];
  behind = omega (arith, v.behind, length-append v.front ((C, n) ∷ []));
  visited = next T nodes first index B C Cs n _ v here ∙ sym (append_assoc v.front ((C, n) ∷ []) (walked (opened C n Cs) (drop (index + 1) nodes)));
  good = All-push (IsGoodVisit T) v.front (C, n) v.good good;
}

-- a refused node is the first bad one
pub stopped : (T : Table) (nodes : List Node) (first index : ℕ) (B C : List Range) (Cs : List (List Range)) (n : Node) (e : Bad) → Visiting T nodes first index B (C ∷ Cs)
    → drop index nodes ≡ n ∷ drop (index + 1) nodes → Refuses T C n e → index_of e ≡ index → IsFirstBad T (walked (B ∷ []) (drop first nodes)) first e
stopped T nodes first index B C Cs n e v here refused at = record {
  box = C;
  node = n;
  front = v.front;
  rest = walked (opened C n Cs) (drop (index + 1) nodes);
  spelled = next T nodes first index B C Cs n _ v here;
  index = at ∙ sym v.behind;
  earlier = v.good;
  refused = refused;
}

all_front : (T : Table) (visits front rest : List Visit) → visits ≡ front ++ rest → rest ≡ [] → All (λ v. IsGood T v.0 v.1) front → All (λ v. IsGood T v.0 v.1) visits
all_front T visits front rest e none good =
    subst (λ (vs : List Visit). All (λ v. IsGood T v.0 v.1) vs) (sym (e ∙ ap (λ (vs : List Visit). front ++ vs) none ∙ append-nil front)) good

-- when no box is open, all nodes of the tree are good
pub closed : (T : Table) (nodes : List Node) (first index : ℕ) (B : List Range) (boxes : List (List Range)) → Visiting T nodes first index B boxes → boxes ≡ []
    → All (λ v. IsGood T v.0 v.1) (walked (B ∷ []) (drop first nodes))
closed T nodes first index B boxes v none =
    all_front T _ v.front _ v.visited (ap (λ (bs : List (List Range)). walked bs (drop index nodes)) none) v.good

-- after the last step no box is shown
pub none_shown : (answer : Bool) (B : List Range) (steps : List Step) → answer ≡ false → steps ≡ [] → shown answer B (waiting B (reverse steps)) ≡ []
none_shown answer B steps over none = ap (λ (b : Bool). shown b B (waiting B (reverse steps))) over ∙ ap (λ (s : List Step). waiting B (reverse s)) none

pub stops_at : (T : Table) (nodes : List Node) (first index : ℕ) (B C : List Range) (Cs : List (List Range)) (n : Node) (e : CheckFault) → Visiting T nodes first index B (C ∷ Cs)
    → drop index nodes ≡ n ∷ drop (index + 1) nodes → IsRefusal T C n index e → StopsAt T (walked (B ∷ []) (drop first nodes)) first e
stops_at T nodes first index B C Cs n Memory v here refused = absurd refused
stops_at T nodes first index B C Cs n (BadNode e) v here refused = stopped T nodes first index B C Cs n e v here refused.0 refused.1
