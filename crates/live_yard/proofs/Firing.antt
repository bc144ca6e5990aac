-- Wants that are granted one after the other.
use Rattle.std.proofs.Common.{◌≡◌, ℕ, List, [], ◌∷◌, ◌++◌, refl, ap, subst, inl, inr}
use Rattle.live_yard.specs.Firing.{CanFire, DispatchState, Fires, IsNextWant, fired}

-- a want that is granted next can be granted
pub next_can : (v : DispatchState) (from k : ℕ) → IsNextWant v from k → CanFire v k
next_can v from k next = elim next [ inl behind ↦ behind.0.1 | inr before ↦ before.1.0 ]

-- the index from which the next want is sought after these were granted
abbrev pub sought_from : ℕ → List ℕ → ℕ
sought_from from [] = from
sought_from from (k ∷ later) = sought_from k later

-- one more want
pub fires-more : (v : DispatchState) (from : ℕ) (before : List ℕ) (w : DispatchState) (k : ℕ) → Fires v from before w
    → IsNextWant w (sought_from from before) k → Fires v from (before ++ k ∷ []) (fired w k)
fires-more v from [] w k same next =
    (subst (λ (u : DispatchState). IsNextWant u from k) same next, ap (λ (u : DispatchState). fired u k) same)
fires-more v from (j ∷ later) w k before next = (before.0, fires-more (fired v j) j later w k before.1 next)

pub sought_from-more : (from : ℕ) (before : List ℕ) (k : ℕ) → sought_from from (before ++ k ∷ []) ≡ k
sought_from-more from [] k = refl
sought_from-more from (j ∷ later) k = sought_from-more j later k
