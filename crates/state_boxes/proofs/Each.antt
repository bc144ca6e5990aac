-- A list that grows by the item that its next place asks for.
use Rattle.std.proofs.Common.{◌≡◌, ℕ, ◌+◌, ◌<◌, List, [], ◌∷◌, ◌++◌, length, get_or, sym, ◌∙◌, subst, arith, inl, inr, length-append}
use Rattle.std.proofs.lemmas.Bool.{cases_eq}
use Rattle.std.specs.Prelude.{slice_set}
use Rattle.std.proofs.lemmas.List.{get_or_append_left, get_or-append-add, get_or-set_same, get_or-set_other, length-set}
use Rattle.state_boxes.specs.Each.{IsEach}

pub at_last : {A : Type 0} (items : List A) (item none : A) (n : ℕ) → n ≡ length items → get_or (items ++ item ∷ []) n none ≡ item
at_last items item none n same =
    let at : n ≡ length items + 0 = omega (arith, same) in
    subst (λ (j : ℕ). get_or (items ++ item ∷ []) j none ≡ item) (sym at) (get_or-append-add items (item ∷ []) 0 none)

pub at_early : {A : Type 0} (items : List A) (item none : A) (k : ℕ) → k < length items → get_or (items ++ item ∷ []) k none ≡ get_or items k none
at_early items item none k lt = get_or_append_left items (item ∷ []) none k lt

pub each_push : {A : Type 0} (P : ℕ → A → Type 0) (n : ℕ) (none : A) (items : List A) (item : A)
    → IsEach P n none items → P n item → IsEach P (n + 1) none (items ++ item ∷ [])
each_push P n none items item before here = (
  omega (arith, before.0, length-append items (item ∷ [])),
  λ k lt. elim (cases_eq k n) [
    | inl same ↦ subst (λ (j : ℕ). P j (get_or (items ++ item ∷ []) j none)) (sym same)
        (subst (P n) (sym (at_last items item none n (sym before.0))) here)
    | inr other ↦
        let early : k < n = omega arith in
        subst (P k) (sym (at_early items item none k (omega (arith, before.0)))) (before.1 k early)
  ],
)

-- of this many items the first ones, up to a place, fit their places
pub record IsUpTo {A : Type 0} (P : ℕ → A → Type 0) (done n : ℕ) (none : A) (items : List A) : Type 0 where
  pub many : length items ≡ n
  pub each : (k : ℕ) → k < done → P k (get_or items k none)

pub up_to_next : {A : Type 0} (P : ℕ → A → Type 0) (done n : ℕ) (none : A) (items : List A) (item : A)
    → IsUpTo P done n none items → done < n → P done item → IsUpTo P (done + 1) n none (slice_set items done item)
up_to_next P done n none items item before lt here = record {
  many = length-set items done item ∙ before.many;
  each = λ k l. elim (cases_eq k done) [
    | inl same ↦ subst (λ (j : ℕ). P j (get_or (slice_set items done item) j none)) (sym same)
        (subst (P done) (sym (get_or-set_same items done item none (omega (arith, before.many, lt)))) here)
    | inr other ↦ subst (P k) (sym (get_or-set_other items done k item none other)) (before.each k (omega arith))
  ];
}
