-- Parts that are divided stand for the same visits, and their first fault is the tree's.
use Rattle.std.proofs.Common.{◌≡◌, ◌⊎◌, inl, inr, ℕ, ◌+◌, List, [], ◌∷◌, ◌++◌, length, drop, refl, sym, ◌∙◌, ap, subst, arith, append_assoc, length-append}
use Rattle.std.specs.Prelude.{All, Result, Ok, Err, OnOk, IfErr, MatchResult}
use Rattle.std.specs.List.{AllZip}
use Rattle.std.proofs.lemmas.List.{append-nil, drop_more}
use Rattle.std.proofs.lemmas.List.Elements.{All-nil, All-push, All-append}
use Rattle.rail_model.specs.declared.types.Node.{Node}
use Rattle.rail_model.specs.declared.types.Node.TheVariants.{Split}
use Rattle.rail_model.specs.declared.types.Bad.{Bad}
use Rattle.rail_model.specs.Table.{Table}
use Rattle.rail_model.specs.Certificate.{left_half, right_half, full_box, IsGood, Tree, preorder, visits, Accepts}
use Rattle.rail_model.proofs.Visits.{Visit, IsGoodVisit}
use Rattle.cert_checker.specs.declared.parts.Part.{Part}
use Rattle.cert_checker.specs.declared.faults.CheckFault.{CheckFault}
use Rattle.cert_checker.specs.declared.faults.CheckFault.TheVariants.{Memory, Bad as BadNode}
use Rattle.cert_checker.specs.Faults.{HasFault}
use Rattle.cert_checker.specs.Walked.{walked, IsFirstBad, StopsAt}
use Rattle.cert_checker.specs.Cut.{IsEnd, IsCut, IsDivided, IsChecked, ArePartsChecked, part_visits, first_fault}
use Rattle.cert_checker.proofs.Whole.{walk_whole, visits_answer}

-- one part is the whole
pub one_part : (T : Table) (nodes : List Node) (part : Part) → part.first ≡ 0 → IsCut T nodes 0 (part ∷ []) (part_visits nodes part)
one_part T nodes part first = ([], [], sym (append-nil (part_visits nodes part)), All-nil (IsGoodVisit T), omega (arith, first), All-nil (IsGoodVisit T))

-- the visits of a divided part
halves_visits : (T : Table) (nodes : List Node) (part left right : Part) (i m : ℕ) → IsDivided T nodes part i m
    → left.first ≡ part.first + 1 → left.ranges ≡ left_half part.ranges i m → right.ranges ≡ right_half part.ranges i m → IsEnd nodes (part.first + 1) right.first
    → part_visits nodes part ≡ (part.ranges, Split i m) ∷ (part_visits nodes left ++ part_visits nodes right)
halves_visits T nodes part left right i m d at_left is_left is_right end =
    let here : drop part.first nodes ≡ Split i m ∷ drop (part.first + 1) nodes =
    drop_more nodes part.first (Split 0 0) d.there ∙ ap (λ (n : Node). n ∷ drop (part.first + 1) nodes) d.node in
    ap (walked (part.ranges ∷ [])) here
    ∙ ap (λ (vs : List Visit). (part.ranges, Split i m) ∷ vs) (end (left_half part.ranges i m) (right_half part.ranges i m ∷ [])).0
    ∙ (λ k. (part.ranges, Split i m) ∷ (walked (sym is_left k ∷ []) (drop (sym at_left k) nodes) ++ walked (sym is_right k ∷ []) (drop right.first nodes)))

divided_here : (T : Table) (nodes : List Node) (part left right : Part) (i m at : ℕ) (later : List Part) (visits : List Visit) → IsDivided T nodes part i m
    → left.first ≡ part.first + 1 → left.ranges ≡ left_half part.ranges i m → right.ranges ≡ right_half part.ranges i m → IsEnd nodes (part.first + 1) right.first
    → IsCut T nodes at (part ∷ later) visits → IsCut T nodes at (left ∷ right ∷ later) visits
divided_here T nodes part left right i m at later visits d at_left is_left is_right end cut =
    let split = halves_visits T nodes part left right i m d at_left is_left is_right end in
    let pl = part_visits nodes left in
    let pr = part_visits nodes right in
    let before = cut.0 in
    let behind = cut.1 in
    let root : Visit = (part.ranges, Split i m) in
    let left_ends : left.first + length pl ≡ right.first =
    (λ k. at_left k + length (walked (is_left k ∷ []) (drop (at_left k) nodes))) ∙ (end (left_half part.ranges i m) []).1 in
    let whole : visits ≡ (before ++ root ∷ []) ++ (pl ++ (pr ++ behind)) =
    cut.2 ∙ ap (λ (vs : List Visit). before ++ (vs ++ behind)) split
    ∙ ap (λ (vs : List Visit). before ++ (root ∷ vs)) (append_assoc pl pr behind)
    ∙ sym (append_assoc before (root ∷ []) (pl ++ (pr ++ behind))) in
    let ends : part.first + length (part_visits nodes part) ≡ right.first + length pr =
    omega (arith, ap (λ (vs : List Visit). length vs) split, length-append pl pr, left_ends, at_left) in (
      before ++ root ∷ [],
      pr ++ behind,
      whole,
      All-push (IsGoodVisit T) before root cut.3 d.splits,
      omega (arith, at_left, cut.4, length-append before (root ∷ [])),
      ([], behind, refl, All-nil (IsGoodVisit T), omega (arith, left_ends), subst (λ (n : ℕ). IsCut T nodes n later behind) ends cut.5),
    )

-- so after other parts
pub divided_behind : (T : Table) (nodes : List Node) (front : List Part) (part left right : Part) (i m at : ℕ) (later : List Part) (visits : List Visit) → IsDivided T nodes part i m
    → left.first ≡ part.first + 1 → left.ranges ≡ left_half part.ranges i m → right.ranges ≡ right_half part.ranges i m → IsEnd nodes (part.first + 1) right.first
    → IsCut T nodes at (front ++ part ∷ later) visits → IsCut T nodes at (front ++ left ∷ right ∷ later) visits
divided_behind T nodes [] part left right i m at later visits d at_left is_left is_right end cut =
    divided_here T nodes part left right i m at later visits d at_left is_left is_right end cut
divided_behind T nodes (p ∷ front) part left right i m at later visits d at_left is_left is_right end cut =
    (cut.0, cut.1, cut.2, cut.3, cut.4, divided_behind T nodes front part left right i m _ later cut.1 d at_left is_left is_right end cut.5)

-- a bad visit in the middle is the first where those before it are good
shifted : (T : Table) (visits front middle rest : List Visit) (at : ℕ) (e : Bad) → visits ≡ front ++ (middle ++ rest) → All (λ v. IsGood T v.0 v.1) front
    → IsFirstBad T middle (at + length front) e → IsFirstBad T visits at e
shifted T visits front middle rest at e whole good bad = record {
  box = bad.box;
  node = bad.node;
  front = front ++ bad.front;
  rest = bad.rest ++ rest;
  spelled = whole ∙ ap (λ (vs : List Visit). front ++ (vs ++ rest)) bad.spelled
      ∙ ap (λ (vs : List Visit). front ++ vs) (append_assoc bad.front ((bad.box, bad.node) ∷ bad.rest) rest)
      ∙ sym (append_assoc front bad.front ((bad.box, bad.node) ∷ (bad.rest ++ rest)));
  index = omega (arith, bad.index, length-append front bad.front);
  earlier = All-append (IsGoodVisit T) front bad.front good bad.earlier;
  refused = bad.refused;
}

stops_shifted : (T : Table) (visits front middle rest : List Visit) (at : ℕ) (e : CheckFault) → visits ≡ front ++ (middle ++ rest) → All (λ v. IsGood T v.0 v.1) front
    → StopsAt T middle (at + length front) e → StopsAt T visits at e
stops_shifted T visits front middle rest at Memory whole good stop = tt
stops_shifted T visits front middle rest at (BadNode e) whole good stop = shifted T visits front middle rest at e whole good stop

-- what the parts answer is what the visits answer
answered : (T : Table) (nodes : List Node) (parts : List Part) (answers : List (Result (Unit {0}) CheckFault)) (at : ℕ) (visits : List Visit)
    → IsCut T nodes at parts visits → AllZip (λ p r. IsChecked T nodes p r) parts answers
    → MatchResult (first_fault answers) (λ _. All (λ v. IsGood T v.0 v.1) visits) (StopsAt T visits at)
answered T nodes [] [] at visits cut all = cut
answered T nodes [] (r ∷ rs) at visits cut all = absurd all
answered T nodes (p ∷ ps) [] at visits cut all = absurd all
answered T nodes (p ∷ ps) (Err e ∷ rs) at visits cut all =
    stops_shifted T visits cut.0 (part_visits nodes p) cut.1 at e cut.2 cut.3 (subst (λ (n : ℕ). StopsAt T (part_visits nodes p) n e) cut.4 all.0)
answered T nodes (p ∷ ps) (Ok u ∷ rs) at visits cut all =
    joined (first_fault rs) (answered T nodes ps rs (p.first + length (part_visits nodes p)) cut.1 cut.5 all.1)
  where
    front : List Visit
    front = cut.0 ++ part_visits nodes p

    whole : visits ≡ front ++ (cut.1 ++ [])
    whole = cut.2 ∙ sym (append_assoc cut.0 (part_visits nodes p) cut.1) ∙ ap (λ (vs : List Visit). front ++ vs) (sym (append-nil cut.1))

    good : All (λ v. IsGood T v.0 v.1) front
    good = All-append (IsGoodVisit T) cut.0 (part_visits nodes p) cut.3 all.0

    index : p.first + length (part_visits nodes p) ≡ at + length front
    index = omega (arith, cut.4, length-append cut.0 (part_visits nodes p))

    joined : (r : Result (Unit {0}) CheckFault) → MatchResult r (λ _. All (λ v. IsGood T v.0 v.1) cut.1) (StopsAt T cut.1 (p.first + length (part_visits nodes p)))
        → MatchResult r (λ _. All (λ v. IsGood T v.0 v.1) visits) (StopsAt T visits at)
    joined (Ok u) rest = subst (λ (vs : List Visit). All (λ v. IsGood T v.0 v.1) vs) (sym (whole ∙ ap (λ (vs : List Visit). front ++ vs) (append-nil cut.1)))
        (All-append (IsGoodVisit T) front cut.1 good rest)
    joined (Err e) rest = stops_shifted T visits front cut.1 [] at e whole good (subst (λ (n : ℕ). StopsAt T cut.1 n e) index rest)

in_either : (P : Type 0) (B : CheckFault → Type 0) (r : Result (Unit {0}) CheckFault) → MatchResult r (λ _. P) B → OnOk r P × IfErr r B
in_either P B (Ok u) h = (h, tt)
in_either P B (Err e) h = (tt, h)

-- what the parts of a certificate's nodes answer is what the certificate answers
whole_answered : (T : Table) (cert : Tree) (nodes : List Node) (parts : List Part) (answers : List (Result (Unit {0}) CheckFault))
    → nodes ≡ preorder cert → IsCut T nodes 0 parts (walked (full_box T ∷ []) (drop 0 nodes)) → AllZip (λ p r. IsChecked T nodes p r) parts answers
    → OnOk (first_fault answers) (Accepts T cert) × IfErr (first_fault answers) (HasFault T cert)
whole_answered T cert nodes parts answers spelled cut all =
    let visited = walked (full_box T ∷ []) (drop 0 nodes) in
    let whole : visited ≡ visits (full_box T) cert = ap (λ (ns : List Node). walked (full_box T ∷ []) (drop 0 ns)) spelled ∙ walk_whole cert (full_box T) in
    let answer = in_either (All (λ v. IsGood T v.0 v.1) visited) (StopsAt T visited 0) (first_fault answers) (answered T nodes parts answers 0 visited cut all) in
    visits_answer T cert visited (first_fault answers) whole answer.0 answer.1

-- so where there was no memory to start
pub cut_answered : (T : Table) (cert : Tree) (nodes : List Node) (parts : List Part) (answer : Result (Unit {0}) CheckFault)
    → nodes ≡ preorder cert → IsCut T nodes 0 parts (walked (full_box T ∷ []) (drop 0 nodes)) → (answer ≡ Err Memory) ⊎ ArePartsChecked T nodes parts answer
    → OnOk answer (Accepts T cert) × IfErr answer (HasFault T cert)
cut_answered T cert nodes parts answer spelled cut (inl none) =
    subst (λ (r : Result (Unit {0}) CheckFault). OnOk r (Accepts T cert) × IfErr r (HasFault T cert)) (sym none) (tt, tt)
cut_answered T cert nodes parts answer spelled cut (inr checked) =
    subst (λ (r : Result (Unit {0}) CheckFault). OnOk r (Accepts T cert) × IfErr r (HasFault T cert)) (sym checked.2)
    (whole_answered T cert nodes parts checked.0 spelled cut checked.1)
