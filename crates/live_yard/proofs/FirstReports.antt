-- First reports are given train by train.
use Rattle.std.proofs.Common.{◌≡◌, ℕ, ◌+◌, ◌<◌, ◌≤◌, List, length, sym, subst, arith, inl, inr}
use Rattle.std.proofs.lemmas.Bool.{cases_eq}
use Rattle.std.proofs.lemmas.List.{get_or-set_same, get_or-set_other}
use Rattle.std.specs.Prelude.{slice_set}
use Rattle.rail_model.specs.declared.types.Line.{Line}
use Rattle.rail_model.specs.Table.{place}
use Rattle.live_yard.specs.Reported.{IsFirstReport}

-- one more train has its first report, which is behind it
pub behind_set : (p r : List ℕ) (i k : ℕ) → i < length r → k ≤ place p i → ((j : ℕ) → place r j ≤ place p j)
    → (j : ℕ) → place (slice_set r i k) j ≤ place p j
behind_set p r i k within low before j = elim (cases_eq j i) [
  | inl same ↦
      let there : place (slice_set r i k) i ≡ k = get_or-set_same r i k 0 within in
      subst (λ (l : ℕ). place (slice_set r i k) l ≤ place p l) (sym same) (omega arith)
  | inr other ↦
      let there : place (slice_set r i k) j ≡ place r j = get_or-set_other r i j k 0 other in
      omega (arith, before j)
]

-- and those before it keep theirs
pub first_set : (lines : List Line) (p r : List ℕ) (i k : ℕ) → i < length r → IsFirstReport lines i (place p i) k
    → ((j : ℕ) → j < i → IsFirstReport lines j (place p j) (place r j))
    → (j : ℕ) → j < i + 1 → IsFirstReport lines j (place p j) (place (slice_set r i k) j)
first_set lines p r i k within now before j here = elim (cases_eq j i) [
  | inl same ↦
      let there : k ≡ place (slice_set r i k) i = sym (get_or-set_same r i k 0 within) in
      subst (λ (l : ℕ). IsFirstReport lines l (place p l) (place (slice_set r i k) l)) (sym same)
      (subst (λ (x : ℕ). IsFirstReport lines i (place p i) x) there now)
  | inr other ↦
      let there : place r j ≡ place (slice_set r i k) j = sym (get_or-set_other r i j k 0 other) in
      subst (λ (x : ℕ). IsFirstReport lines j (place p j) x) there (before j (omega arith))
]
