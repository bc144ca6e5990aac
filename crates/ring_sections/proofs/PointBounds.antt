-- Points below a number, mission by mission.
use Rattle.std.proofs.Common.{◌≡◌, ℕ, ◌+◌, ◌<◌, ◌≤◌, List, length, take, Some, slice_get, arith, ap, ◌∙◌, inl, inr, sym, [], false, subst}
use Rattle.std.specs.Prelude.{All, slice_index_or, nat_lt, true, refl}
use Rattle.std.specs.List.{list_all}
use Rattle.std.proofs.lemmas.Bool.Decides.{Decides-by_and, Decides-ltb}
use Rattle.std.proofs.lemmas.Bool.{cases_order}
use Rattle.std.proofs.lemmas.List.{get_or-take, get_or_past, get_or_default, length-take}
use Rattle.std.proofs.lemmas.Option.{slice_get_within, get_or_from_slice_get}
use Rattle.rail_model.specs.Table.{Mission, mission}
use Rattle.forbidden_states.specs.Forbid.{unmarked}
use Rattle.ring_sections.specs.Search.{ArePointsBelow}

all-get : (xs : List ℕ) (b k q : ℕ) → All (λ x. x < b) xs → slice_get xs k ≡ Some q → q < b
all-get xs b k q h e = subst (λ v. v < b) (get_or_from_slice_get xs k q 0 e) (h k 0 (slice_get_within xs k q e))

pub low_points : (xs : List ℕ) (b k q : ℕ) → list_all (λ x. nat_lt x b) xs ≡ true → slice_get xs k ≡ Some q → q < b
low_points xs b k q less = all-get xs b k q ((Decides-by_and (λ x. nat_lt x b) (λ x. x < b) (list_all (λ x. nat_lt x b)) (λ x. Decides-ltb x b) refl (λ _ _. refl) xs).0 less)

-- one mission more
pub points-more : (ms : List Mission) (n b c : ℕ) (d : Mission) → n < length ms → ArePointsBelow (take n ms) b → b ≤ c → All (λ q. q < c) (slice_index_or ms n d).points → ArePointsBelow (take (n + 1) ms) c
points-more ms n b c d l before wider here i k q e = elim (cases_order i n) [
  | inl same ↦
      let is : mission (unmarked (take (n + 1) ms)) i ≡ slice_index_or ms n d = get_or-take (n + 1) ms i _ (omega arith) ∙ (ap (λ j. mission (unmarked ms) j) same ∙ get_or_default ms n _ d l) in
      all-get (slice_index_or ms n d).points c k q here (subst (λ (m : Mission). slice_get m.points k ≡ Some q) is e)
  | inr other ↦ elim other [
    | inl low ↦
        let is : mission (unmarked (take (n + 1) ms)) i ≡ mission (unmarked (take n ms)) i = get_or-take (n + 1) ms i _ (omega arith) ∙ sym (get_or-take n ms i _ low) in
        let below = before i k q (subst (λ (m : Mission). slice_get m.points k ≡ Some q) is e) in
        omega arith
    | inr high ↦
        let none : Mission = record { points = []; exits = false } in
        let is : mission (unmarked (take (n + 1) ms)) i ≡ none = get_or_past (take (n + 1) ms) i none (omega (arith, length-take (n + 1) ms)) in
        absurd (cc (subst (λ (m : Mission). slice_get m.points k ≡ Some q) is e))
  ]
]
