-- The tests say what the definitions say.
use Rattle.std.proofs.Common.{◌≡◌, ◌≢◌, ℕ, ◌+◌, ◌<◌, Bool, true, false, true≢false, ◌&&◌, pos, ◌+ℤ◌, ◌<ℤ◌, List, length, Some, refl, inl, inr, sym, ◌∙◌}
use Rattle.std.specs.Prelude.{IsTrue, Decides}
use Rattle.std.specs.List.{list_any}
use Rattle.std.proofs.lemmas.Bool.{cases_Bool}
use Rattle.std.proofs.lemmas.Bool.Decides.{Decides-and, Decides-or, Decides-not, Decides-ltb, Decides-like}
use Rattle.rail_model.specs.Table.{Table, trains, last, limit, change, point, place}
use Rattle.rail_model.specs.State.{StandsAt}
use Rattle.rail_model.specs.Checks.{below}
use Rattle.rail_model.proofs.Agree.{Decides-any_below, Decides-any_get, Decides-int_lt}
use Rattle.rail_model.proofs.Asked.{Decides-blocks, Decides-held}
use Rattle.state_core.specs.Core.{has, count_within, IsBlockedWithin, IsShutWithin, IsHeldWithin, IsKept, IsCore, is_blocked_within, is_shut_within, is_held_within, is_kept, is_loose, is_core, CoreIsTested}

-- a test of itself
pub itself : (b : Bool) → Decides b (b ≡ true)
itself b = (λ h. h, λ h. h)

-- ---- tests of all numbers below one

pub some_below : (p : ℕ → Bool) (n k : ℕ) → k < n → p k ≡ true → list_any p (below n) ≡ true
some_below p n k lt h = (Decides-any_below p (λ j. p j ≡ true) (λ j. itself (p j)) n).1 (k, lt, h)

pub none_below : (p : ℕ → Bool) (n : ℕ) → ((k : ℕ) → k < n → p k ≡ false) → list_any p (below n) ≡ false
none_below p n none = elim (cases_Bool (list_any p (below n))) [
  | inl some ↦ (let k = (Decides-any_below p (λ j. p j ≡ true) (λ j. itself (p j)) n).0 some in
      absurd (true≢false (sym k.2 ∙ none k.0 k.1)))
  | inr h ↦ h
]

pub both_true : (x y : Bool) → x ≡ true → y ≡ true → (x && y) ≡ true
both_true x y e f = rw (e, f) refl

-- ---- a core

pub Decides-blocked : (T : Table) (p group : List ℕ) (i : ℕ) →
    Decides (is_blocked_within T p group i) (IsBlockedWithin T p group i)
Decides-blocked T p group i =
    Decides-like (is_blocked_within T p group i)
    (λ h. (h.0, h.2.0, (h.1, h.2.1.0, h.2.1.1)))
    (λ h. (h.0, h.2.0, (h.1, (h.2.1, h.2.2))))
    (Decides-any_below _ (λ j. IsTrue (has group j)
    × ((j ≢ i) × ((q : ℕ) × (point T i (place p i + 1) ≡ Some q) × StandsAt T p j q)))
    (λ j. Decides-and _ _ (itself (has group j)) (Decides-blocks T p i j)) (trains T))

pub Decides-shut : (T : Table) (p group : List ℕ) (i : ℕ) →
    Decides (is_shut_within T p group i) (IsShutWithin T p group i)
Decides-shut T p group i =
    Decides-like (is_shut_within T p group i)
    (λ h. (h.0, h.1, h.2.0, h.2.1))
    (λ h. (h.0, h.1, (h.2, h.3)))
    (Decides-any_below _ (λ s. (pos 0 <ℤ change T i s (place p i + 1))
    × (pos (limit T s) <ℤ (count_within T group s p +ℤ change T i s (place p i + 1))))
    (λ s. Decides-and _ _ (Decides-int_lt _ _) (Decides-int_lt _ _)) (length T.sections))

pub Decides-held_within : (T : Table) (p group : List ℕ) (i : ℕ) →
    Decides (is_held_within T p group i) (IsHeldWithin T p group i)
Decides-held_within T p group i =
    Decides-like (is_held_within T p group i)
    (λ h. (h.0, h.1, h.2, h.3.0.0.0, h.3.0.0.1, h.3.0.1, h.3.1))
    (λ h. (h.0, h.1, h.2, (((h.3, h.4), h.5), h.6)))
    (Decides-any_get _ (λ k. (((k.train ≡ i) × (k.place ≡ place p i)) × (place p k.other < k.reached))
    × IsTrue (has group k.other))
    (λ k. Decides-and _ _ (Decides-held p i k) (itself (has group k.other))) T.connections)

pub Decides-kept : (T : Table) (p group : List ℕ) (i : ℕ) → Decides (is_kept T p group i) (IsKept T p group i)
Decides-kept T p group i =
    Decides-or _ _ (Decides-blocked T p group i)
    (Decides-or _ _ (Decides-shut T p group i) (Decides-held_within T p group i))

-- a train of the group that isn't kept
abbrev pub IsLoose : Table → List ℕ → List ℕ → ℕ → Type 0
IsLoose T p group i = (IsTrue (has group i) × (place p i < last T i)) × (IsKept T p group i → ⊥)

pub Decides-loose : (T : Table) (p group : List ℕ) (i : ℕ) → Decides (is_loose T p group i) (IsLoose T p group i)
Decides-loose T p group i =
    Decides-and _ _ (Decides-and _ _ (itself (has group i)) (Decides-ltb _ _))
    (Decides-not _ (Decides-kept T p group i))

-- where no train is loose, each is kept
kept_from : (T : Table) (p group : List ℕ) → ((i : ℕ) × (i < trains T) × IsLoose T p group i → ⊥)
    → (i : ℕ) → i < trains T → IsTrue (has group i) → place p i < last T i → IsKept T p group i
kept_from T p group none i lt member unfinished = elim (cases_Bool (is_kept T p group i)) [
  | inl h ↦ (Decides-kept T p group i).0 h
  | inr h ↦ absurd (none (
    i,
    lt,
    (
      (member, unfinished),
      λ kept. true≢false (sym ((Decides-kept T p group i).1 kept)
          ∙ h),
    ),
  ))
]

pub Decides-core : (T : Table) (p group : List ℕ) → Decides (is_core T p group) (IsCore T p group)
Decides-core T p group =
    Decides-like (is_core T p group)
    (λ h. record { unfinished = (h.0.0, h.0.1, h.0.2.0, h.0.2.1); kept = kept_from T p group h.1 })
    (λ h. (
      (h.unfinished.0, h.unfinished.1, (h.unfinished.2, h.unfinished.3)),
      λ w. w.2.1
          (h.kept w.0 w.1 w.2.0.0 w.2.0.1),
    ))
    (Decides-and _ _
    (Decides-any_below _ (λ i. IsTrue (has group i) × (place p i < last T i))
    (λ i. Decides-and _ _ (itself (has group i)) (Decides-ltb _ _)) (trains T))
    (Decides-not _ (Decides-any_below _ (IsLoose T p group) (Decides-loose T p group) (trains T))))

pub core_is_tested : CoreIsTested
core_is_tested T p group = Decides-core T p group
