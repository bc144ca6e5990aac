-- Circular waits that are added part by part.
use Rattle.std.proofs.Common.{◌≡◌, ◌⊎◌, ℕ, zero, suc, ◌+◌, ◌<◌, ◌≤◌, List, [], ◌∷◌, ◌++◌, length, length-append, take, drop, append-nil, append_assoc, Result, arith, ap, ◌∙◌, inl, inr, subst, sym}
use Rattle.std.specs.Prelude.{flat_map, slice_index_or, IsErrAnd}
use Rattle.std.proofs.lemmas.List.{take_more, take_all, take-append-drop, flat_map_more}
use Rattle.std.proofs.lemmas.List.Concat.{flat_map-append}
use Rattle.rail_model.specs.Table.{Mission}
use Rattle.rail_model.proofs.Firsts.{Err-is}
use Rattle.ring_sections.specs.declared.refused.Rings.{Rings}
use Rattle.ring_sections.specs.declared.refused.Rings.TheVariants.{Many, Memory}
use Rattle.ring_sections.specs.Ring.{Pair, pairs}
use Rattle.ring_sections.specs.Search.{own_ring, rings_from}
use Rattle.ring_sections.specs.Answer.{AddsRings}
use Rattle.ring_sections.proofs.Pruned.{rings_from-zero, rings_from-next}

-- nothing is to be added
pub adds_none : (before added : List (List Pair)) → added ≡ [] → length before ≤ 64 → (before ≡ before ++ added) × (length before ≤ 64)
adds_none before added none few = (sym (ap (λ v. before ++ v) none ∙ append-nil before), few)

-- Memory was wanting, or these were too many.
abbrev pub Fails : List (List Pair) → Rings → Type 0
Fails rings e = (e ≡ Memory) ⊎ ((e ≡ Many 65) × (64 < length rings))

pub more-fail : (e : Rings) (some rest : List (List Pair)) → Fails some e → Fails (some ++ rest) e
more-fail e some rest fails = elim fails [
  | inl memory ↦ inl memory
  | inr many ↦ inr (many.0, omega (arith, many.1, length-append some rest))
]

-- an error came while a first part was added
pub adds_err : {U : Type 0} (before after first rest whole : List (List Pair)) (r : Result U Rings) (e : Rings) → IsErrAnd r (λ y. y ≡ e) → whole ≡ first ++ rest →
    Fails (before ++ first) e → AddsRings before after whole r
adds_err before after first rest whole r e at split fails =
    let all : Fails (before ++ whole) e =
    subst (λ v. Fails v e) (append_assoc before first rest ∙ ap (λ v. before ++ v) (sym split)) (more-fail e (before ++ first) rest fails) in
    subst (AddsRings before after whole) (sym (Err-is r e at)) all

-- the pairs' own circular wait comes first
pub own_first : (M : List Mission) (r : List Pair) (n : ℕ) → (rest : List (List Pair)) × (rings_from M r n ≡ own_ring M r ++ rest)
own_first M r zero = ([], rings_from-zero M r ∙ sym (append-nil (own_ring M r)))
own_first M r (suc n) = (flat_map (λ w. rings_from M (r ++ w ∷ []) n) (pairs M), rings_from-next M r n)

module _ {X Y : Type 0} (f : X → List Y) (xs : List X) (k : ℕ) (x : X) (l : k < length xs) (at : x ≡ slice_index_or xs k x) where
  -- one element more
  flat-more : flat_map f (take (k + 1) xs) ≡ flat_map f (take k xs) ++ f x
  flat-more = ap (flat_map f) (take_more xs k x l ∙ ap (λ y. take k xs ++ y ∷ []) (sym at)) ∙ sym (flat_map_more f [] (take k xs) x)

  -- the parts before an element, its own, and those after
  pub flat-split : flat_map f xs ≡ (flat_map f (take k xs) ++ f x) ++ flat_map f (drop (k + 1) xs)
  flat-split =
      ap (flat_map f) (sym (take-append-drop (k + 1) xs)) ∙ flat_map-append f (take (k + 1) xs) (drop (k + 1) xs) ∙ ap (λ ys. ys ++ flat_map f (drop (k + 1) xs)) flat-more

-- the last part
pub added_all : {X : Type 0} (f : X → List (List Pair)) (xs : List X) (k : ℕ) (base own found whole : List (List Pair)) → length xs ≤ k →
    found ≡ base ++ (own ++ flat_map f (take k xs)) → whole ≡ own ++ flat_map f xs → found ≡ base ++ whole
added_all f xs k base own found whole past so_far split =
    so_far ∙ ap (λ ys. base ++ (own ++ flat_map f ys)) (take_all k xs past) ∙ ap (λ v. base ++ v) (sym split)

module _ {X : Type 0} (f : X → List (List Pair)) (xs : List X) (k : ℕ) (x : X) (l : k < length xs) (at : x ≡ slice_index_or xs k x) (base own before : List (List Pair))
    (so_far : before ≡ base ++ (own ++ flat_map f (take k xs))) where
  with-part : before ++ f x ≡ base ++ (own ++ (flat_map f (take k xs) ++ f x))
  with-part = ap (λ v. v ++ f x) so_far ∙ append_assoc base (own ++ flat_map f (take k xs)) (f x) ∙ ap (λ v. base ++ v) (append_assoc own (flat_map f (take k xs)) (f x))

  -- a part more
  pub added_more : (after added : List (List Pair)) → after ≡ before ++ added → added ≡ f x → after ≡ base ++ (own ++ flat_map f (take (k + 1) xs))
  added_more after added pushed value = pushed ∙ ap (λ v. before ++ v) value ∙ with-part ∙ ap (λ v. base ++ (own ++ v)) (sym (flat-more f xs k x l at))

  -- an error came while a part was added
  pub failed_part : {U : Type 0} (after whole : List (List Pair)) (r : Result U Rings) (e : Rings) → whole ≡ own ++ flat_map f xs → IsErrAnd r (λ y. y ≡ e) → Fails (before ++ f x) e → AddsRings base after whole r
  failed_part after whole r e split err fails =
      let rest : List (List Pair) = flat_map f (drop (k + 1) xs) in
      adds_err base after (own ++ (flat_map f (take k xs) ++ f x)) rest whole r e err
      (split ∙ ap (λ v. own ++ v) (flat-split f xs k x l at) ∙ sym (append_assoc own (flat_map f (take k xs) ++ f x) rest))
      (subst (λ v. Fails v e) with-part fails)
