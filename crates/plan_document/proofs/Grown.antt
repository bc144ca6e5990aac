-- The members of the document of a plan are ones that version 3 may have, and lists of them that grow by one.
use Rattle.std.proofs.Common.{◌≡◌, ◌<◌, ◌+◌, ℕ, List, [], ◌∷◌, ◌++◌, map, take, get_or, length, ap, ◌∙◌, sym, arith, append_assoc}
use Rattle.std.proofs.lemmas.List.{take_more, map-append}
use Rattle.std.proofs.lemmas.List.FromFn.{map-range_with_len_more}
use Rattle.rail_model.specs.Checks.{below}
use Rattle.document_shapes.specs.Raw.{IsRead}
use Rattle.plan_document.specs.declared.plan.Plan.{Plan}
use Rattle.plan_document.specs.Written.{document_of}

pub plan_is_read : (p : Plan) → IsRead (document_of p)
plan_is_read p = record {
  first = omega arith;
  last = omega arith;
  tables = λ k d lt. record { exits = λ early. absurd (omega (arith, early)); connections = λ early. absurd (omega (arith, early)) };
}

-- the value of one number more
pub value_next : {X : Type 0} (f : ℕ → X) (n : ℕ) (found new : List X) (x : X) → found ≡ map f (below n) → x ≡ f n → new ≡ found ++ x ∷ [] →
    new ≡ map f (below (n + 1))
value_next f n found new x was value pushed =
    pushed ∙ ap (λ p. p ++ x ∷ []) was ∙ ap (λ y. map f (below n) ++ y ∷ []) value ∙ sym (map-range_with_len_more f 0 n n (omega arith))

-- what one item more stands for
pub take_next : {A X Y : Type 0} (see : A → Y) (f : X → Y) (xs : List X) (k : ℕ) (x : X) (found new : List A) (a : A) → k < length xs → x ≡ get_or xs k x →
    map see found ≡ map f (take k xs) → see a ≡ f x → new ≡ found ++ a ∷ [] → map see new ≡ map f (take (k + 1) xs)
take_next see f xs k x found new a lt at was value pushed =
    let grown : map see new ≡ map see found ++ see a ∷ [] = ap (map see) pushed ∙ map-append see found (a ∷ []) in
    let more : map f (take (k + 1) xs) ≡ map f (take k xs) ++ f x ∷ [] =
    ap (map f) (take_more xs k x lt) ∙ map-append f (take k xs) (get_or xs k x ∷ []) ∙ ap (λ y. map f (take k xs) ++ f y ∷ []) (sym at) in
    cc

-- what one item more of those that are left stands for
pub left_next : {A X Y : Type 0} (see : A → Y) (f : X → Y) (all left : List X) (x : X) (found new : List A) (a : A) →
    map f all ≡ map see found ++ map f (x ∷ left) → see a ≡ f x → new ≡ found ++ a ∷ [] → map f all ≡ map see new ++ map f left
left_next see f all left x found new a was value pushed =
    let grown : map see new ≡ map see found ++ see a ∷ [] = ap (map see) pushed ∙ map-append see found (a ∷ []) in
    let split = append_assoc (map see found) (see a ∷ []) (map f left) in
    cc
