-- The points at which trains have shares of a section are points of the table.
use Rattle.std.proofs.Common.{◌≡◌, ◌∷◌, [], ℕ, zero, suc, ◌+◌, ◌<◌, ◌++◌, List, Bool, true, false, refl}
use Rattle.std.specs.Prelude.{All, Option, Some, None, pos, int_lt, ◌==◌, if◌then◌else◌}
use Rattle.std.specs.List.{list_any}
use Rattle.std.proofs.lemmas.List.Elements.{All-nil, All-cons, All-append}
use Rattle.rail_model.specs.Table.{Table, last, point, share}
use Rattle.refusal_meanings.specs.HeldPoints.{held_at, with_point, held_before, held_points}

either : {A : Type 0} (P : A → Type 0) (b : Bool) (x y : A) → P x → P y → P (if b then x else y)
either P true x y px py = px
either P false x y px py = py

module _ (T : Table) (s m : ℕ) (within : (i k q : ℕ) → point T i k ≡ Some q → q < m) where
  held_within : (i k q : ℕ) → held_at T s i k ≡ Some q → q < m
  held_within i k =
      either (λ (at : Option ℕ). (q : ℕ) → at ≡ Some q → q < m) (int_lt (pos 0) (share T i s k)) (point T i k) None (within i k) (λ q e. cc)

  with_within : (points : List ℕ) (at : Option ℕ) → ((q : ℕ) → at ≡ Some q → q < m) → All (λ q. q < m) points → All (λ q. q < m) (with_point points at)
  with_within points None h all = all
  with_within points (Some q) h all =
      either (All (λ q. q < m)) (list_any (λ known. known == q) points) points (points ++ (q ∷ [])) all
      (All-append (λ q. q < m) points (q ∷ []) all (All-cons (λ q. q < m) q [] (h q refl) (All-nil (λ q. q < m))))

  before_within : (i : ℕ) (points : List ℕ) (k : ℕ) → All (λ q. q < m) points → All (λ q. q < m) (held_before T s i points k)
  before_within i points zero all = all
  before_within i points (suc k) all =
      with_within (held_before T s i points k) (held_at T s i k) (held_within i k) (before_within i points k all)

  pub points_within : (n : ℕ) → All (λ q. q < m) (held_points T s n)
  points_within zero = All-nil (λ q. q < m)
  points_within (suc i) = before_within i (held_points T s i) (last T i + 1) (points_within i)
