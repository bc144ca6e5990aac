-- What loads answer is what their parts answer.
use Rattle.std.proofs.Common.{◌≡◌, ◌≤◌, ℕ, List, [], ◌∷◌, ◌++◌, reverse, take, drop, refl, sym, ◌∙◌, ap}
use Rattle.std.specs.Prelude.{All, Result, Ok, Err, map}
use Rattle.std.proofs.lemmas.Grind.{flat_map-append}
use Rattle.std.proofs.lemmas.List.{append-nil, reverse-append, take-append-drop, take-take}
use Rattle.std.proofs.lemmas.Slice.{between_is}
use Rattle.std.proofs.lemmas.List.Elements.{All-nil, All-cons, All-head, All-tail, All-push, All-same}
use Rattle.std.specs.List.{AllZip, between}
use Rattle.rayon.proofs.ListFacts.{AllZip-append}
use Rattle.rail_model.specs.declared.types.Node.{Node}
use Rattle.rail_model.specs.Table.{Table}
use Rattle.cert_checker.specs.declared.parts.Part.{Part}
use Rattle.cert_checker.specs.declared.loads.Load.{Load}
use Rattle.cert_checker.specs.declared.faults.CheckFault.{CheckFault}
use Rattle.cert_checker.specs.declared.faults.CheckFault.TheVariants.{Memory}
use Rattle.cert_checker.specs.Cut.{IsPart, IsLoad, IsChecked, ArePartsChecked, IsLoadChecked, parts_of, first_fault}

abbrev Answer : Type 0
Answer = Result (Unit {0}) CheckFault

-- what holds of two lists, one after the other, holds of both
All-both : {X : Type 0} (P : X → Type 0) (xs ys : List X) → All P (xs ++ ys) → All P xs × All P ys
All-both P [] ys all = (All-nil P, all)
All-both P (x ∷ xs) ys all =
    let rest = All-both P xs ys (All-tail P x (xs ++ ys) all) in
    (All-cons P x xs (All-head P x (xs ++ ys) all) rest.0, rest.1)

pub All-reverse : {X : Type 0} (P : X → Type 0) (xs : List X) → All P xs → All P (reverse xs)
All-reverse P [] all = all
All-reverse P (x ∷ xs) all =
    All-same P (reverse (x ∷ xs)) (reverse xs ++ x ∷ []) (reverse-append (x ∷ []) xs)
    (All-push P (reverse xs) x (All-reverse P xs (All-tail P x xs all)) (All-head P x xs all))

module _ (T : Table) (nodes : List Node) where
  -- where memory ran out, nothing is said of a part
  unchecked : (parts : List Part) → AllZip (λ p r. IsChecked T nodes p r) parts (map (λ _. Err Memory) parts)
  unchecked [] = tt
  unchecked (p ∷ parts) = (tt, unchecked parts)

  pub none_checked : ArePartsChecked T nodes [] (Ok tt)
  none_checked = ([], tt, refl)

  pub good_then : (part : Part) (later : List Part) (answer : Answer) → IsChecked T nodes part (Ok tt)
      → ArePartsChecked T nodes later answer → ArePartsChecked T nodes (part ∷ later) answer
  good_then part later answer good checked = (Ok tt ∷ checked.0, (good, checked.1), checked.2)

  pub bad_first : (part : Part) (later : List Part) (e : CheckFault) → IsChecked T nodes part (Err e) → ArePartsChecked T nodes (part ∷ later) (Err e)
  bad_first part later e bad = (Err e ∷ map (λ _. Err Memory) later, (bad, unchecked later), refl)

  first_of_both : (front back answers : List Answer) → first_fault answers ≡ first_fault back
      → first_fault (first_fault front ∷ answers) ≡ first_fault (front ++ back)
  first_of_both [] back answers same = same
  first_of_both (Ok u ∷ front) back answers same = first_of_both front back answers same
  first_of_both (Err e ∷ front) back answers same = refl

  -- the answers of the parts of all loads, the first fault of which is that of the loads
  pub of_parts : (loads : List Load) (answers : List Answer) → AllZip (λ load r. IsLoadChecked T nodes load r) loads answers
      → ArePartsChecked T nodes (parts_of loads) (first_fault answers)
  of_parts [] [] all = none_checked
  of_parts [] (r ∷ rs) all = absurd all
  of_parts (load ∷ loads) [] all = absurd all
  of_parts (load ∷ loads) (r ∷ rs) all =
      let here = all.0 in
      let rest = of_parts loads rs all.1 in (
        here.0 ++ rest.0,
        AllZip-append (λ p r. IsChecked T nodes p r) load.parts.now (parts_of loads) here.0 rest.0 here.1 rest.1,
        ap (λ (a : Answer). first_fault (a ∷ rs)) here.2 ∙ first_of_both here.0 rest.0 rs rest.2,
      )

  -- loads of parts of the tree
  pub are_loads : (loads : List Load) → All (λ p. IsPart T nodes p) (parts_of loads) → All (λ load. IsLoad T nodes load) loads
  are_loads [] all = All-nil (λ load. IsLoad T nodes load)
  are_loads (load ∷ loads) all =
      let both = All-both (λ p. IsPart T nodes p) load.parts.now (parts_of loads) all in
      All-cons (λ load. IsLoad T nodes load) load loads both.0 (are_loads loads both.1)

-- one more load
pub dealt_more : (loads : List Load) (load : Load) (parts : List Part) (from until : ℕ) → parts_of loads ≡ take from parts
    → load.parts.now ≡ between from until parts → from ≤ until → parts_of (loads ++ load ∷ []) ≡ take until parts
dealt_more loads load parts from until so_far is within =
    let front = take until parts in
    flat_map-append (λ load. load.parts.now) loads (load ∷ [])
    ∙ (λ k. so_far k ++ (is k ++ []))
    ∙ ap (λ (ps : List Part). take from parts ++ ps) (append-nil (between from until parts) ∙ between_is parts from until)
    ∙ ap (λ (ps : List Part). ps ++ drop from front) (sym (take-take from until parts within))
    ∙ take-append-drop from front
