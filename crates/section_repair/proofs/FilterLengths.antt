-- How many elements a filter keeps: of two filters, and of the whole list.
use Rattle.std.proofs.Common.{◌≡◌, ◌<◌, ◌≤◌, Bool, true, false, List, [], ◌∷◌, length, refl, arith, inl, inr, subst, sym, cond}
use Rattle.std.specs.Prelude.{filter}
use Rattle.std.proofs.lemmas.List.Sums.{length-filter, count_by-le-length}
use Rattle.rail_model.proofs.Found.{Among}

filter-le : {X : Type 0} (q r : X → Bool) (xs : List X) → ((x : X) → Among xs x → q x ≡ true → r x ≡ true) → length (filter q xs) ≤ length (filter r xs)
filter-le q r [] h = omega arith
filter-le q r (y ∷ ys) h =
    let rest : length (filter q ys) ≤ length (filter r ys) = filter-le q r ys (λ x a e. h x (inr a) e) in
    (elim (q y) as (λ b. q y ≡ b → length (cond b (y ∷ filter q ys) (filter q ys)) ≤ length (filter r (y ∷ ys))) [
      | true ↦ λ e. rw (h y (inl refl) e) (omega arith)
      | false ↦ λ e. (elim (r y) as (λ c. length (filter q ys) ≤ length (cond c (y ∷ filter r ys) (filter r ys))) [ true ↦ omega arith | false ↦ omega arith ])
    ]) refl

pub filter-lt : {X : Type 0} (q r : X → Bool) (xs : List X) (z : X) → ((x : X) → Among xs x → q x ≡ true → r x ≡ true) →
    Among xs z → q z ≡ false → r z ≡ true → length (filter q xs) < length (filter r xs)
filter-lt q r [] z h a e f = absurd a
filter-lt q r (y ∷ ys) z h a e f = elim a [
  | inl s ↦
      let rest : length (filter q ys) ≤ length (filter r ys) = filter-le q r ys (λ x b g. h x (inr b) g) in
      let qy : q y ≡ false = subst (λ v. q v ≡ false) (sym s) e in
      let ry : r y ≡ true = subst (λ v. r v ≡ true) (sym s) f in
      rw (qy, ry) (omega arith)
  | inr later ↦
      let rest : length (filter q ys) < length (filter r ys) = filter-lt q r ys z (λ x b g. h x (inr b) g) later e f in
      (elim (q y) as (λ b. q y ≡ b → length (cond b (y ∷ filter q ys) (filter q ys)) < length (filter r (y ∷ ys))) [
        | true ↦ λ g. rw (h y (inl refl) g) (omega arith)
        | false ↦ λ g. (elim (r y) as (λ c. length (filter q ys) < length (cond c (y ∷ filter r ys) (filter r ys))) [ true ↦ omega arith | false ↦ omega arith ])
      ]) refl
]

pub filter-full : {X : Type 0} (q : X → Bool) (xs : List X) (x : X) → length xs ≤ length (filter q xs) → Among xs x → q x ≡ true
filter-full q [] x h a = absurd a
filter-full q (y ∷ ys) x h a =
    let most : length (filter q ys) ≤ length ys = omega (arith, length-filter q ys, count_by-le-length q ys) in
    (elim (q y) as (λ b. q y ≡ b → length (y ∷ ys) ≤ length (cond b (y ∷ filter q ys) (filter q ys)) → q x ≡ true) [
      | true ↦ λ e k. elim a [ inl s ↦ subst (λ v. q v ≡ true) s e | inr later ↦ filter-full q ys x (omega arith) later ]
      | false ↦ λ e k. absurd (omega arith)
    ]) refl h
