-- Rows of what sections, connections, times, layouts and names keep.
use Rattle.std.proofs.Common.{◌≡◌, ◌≢◌, ℕ, zero, suc, ◌+◌, ◌<◌, ◌≤◌, ℤ, pos, ◌≤ℤ◌, ◌<ℤ◌, Bool, true, not, ◌&&◌, List, [], ◌∷◌, length, Some, refl, subst, arith, lit<, lit≤, inl, inr}
use Rattle.std.specs.Prelude.{codes, slice_get, slice_index_or, int_lt, Decides}
use Rattle.std.specs.List.{list_all}
use Rattle.std.proofs.lemmas.Bool.Decides.{Decides-not, Decides-and}
use Rattle.rail_model.specs.Table.{Table, section as section_of, share, IsSection, IsConnection, last}
use Rattle.rail_model.specs.Times.{AreTimes}
use Rattle.rail_model.specs.Names.{AreNames}
use Rattle.rail_model.specs.Layout.{Link, AreLinked, IsLayout, zone}
use Rattle.rail_model.specs.Naming.{IsFirstDouble}
use Rattle.rail_model.specs.Checks.{below}
use Rattle.rail_model.proofs.Agree.{Decides-all_below, Decides-int_lt}
use Rattle.rail_model.proofs.Decide.{cases_≤ℤ}
use Rattle.rail_model.proofs.NameTests.{are_names, first_double-some}
use Rattle.rail_model.proofs.Samples.{beside, waiting, one_train, two_points}

-- whether numbers are 0 to 4
abbrev are_low : (ℕ → ℤ) → ℕ → Bool
are_low f n = list_all (λ k. not (int_lt (f k) (pos 0)) && not (int_lt (pos 4) (f k))) (below n)

Decides-low : (f : ℕ → ℤ) (n : ℕ) → Decides (are_low f n) ((k : ℕ) → k < n → (f k <ℤ pos 0 → ⊥) × (pos 4 <ℤ f k → ⊥))
Decides-low f n =
    Decides-all_below _ (λ k. (f k <ℤ pos 0 → ⊥) × (pos 4 <ℤ f k → ⊥))
    (λ k. Decides-and _ _ (Decides-not _ (Decides-int_lt _ _)) (Decides-not _ (Decides-int_lt _ _))) n

low_from : (f : ℕ → ℤ) (n : ℕ) → are_low f n ≡ true → (k : ℕ) → k < n → (pos 0 ≤ℤ f k) × (f k ≤ℤ pos 4)
low_from f n h k lt = let both = (Decides-low f n).0 h k lt in (not_over (f k) (pos 0) both.0, not_over (pos 4) (f k) both.1)
  where
    not_over : (a b : ℤ) → (a <ℤ b → ⊥) → b ≤ℤ a
    not_over a b fails = elim (cases_≤ℤ b a) [ inl le ↦ le | inr lt ↦ absurd (fails lt) ]

-- T0 has a share of 2 from its second place on, and T1 a share of 1
section : IsSection beside 1
section = record {
  low_limit = lit≤ tt;
  one_each = refl;
  per_place = per_place;
  not_below = λ i k lt within. (low i k lt within).0;
  not_above = λ i k lt within. (low i k lt within).1;
}
  where
    per_place : (i : ℕ) → i < 2 → length (slice_index_or (section_of beside 1).changes i []) ≡ last beside i + 1
    per_place zero lt = refl
    per_place (suc zero) lt = refl
    per_place (suc (suc i)) lt = absurd (omega (arith, lt))

    low : (i k : ℕ) → i < 2 → k ≤ last beside i → (pos 0 ≤ℤ share beside i 1 k) × (share beside i 1 k ≤ℤ pos 4)
    low zero k lt within = low_from (share beside 0 1) 3 refl k (omega (arith, within))
    low (suc zero) k lt within = low_from (share beside 1 1) 2 refl k (omega (arith, within))
    low (suc (suc i)) k lt within = absurd (omega (arith, lt))

connected : IsConnection waiting (record { train = 0; place = 0; other = 1; reached = 1 })
connected = record { train = lit< tt; other = lit< tt; two = λ e. cc; place = lit< tt; reached = lit≤ tt }

-- no train waits at its last place
not_connected : IsConnection waiting (record { train = 0; place = 1; other = 1; reached = 0 }) → ⊥
not_connected h = omega (arith, h.place)

abbrev from_A_to_C : Table
from_A_to_C = one_train (0 ∷ 1 ∷ 2 ∷ [])

abbrev ticks : List (List ℕ)
ticks = (7 ∷ 9 ∷ []) ∷ []

timed : AreTimes from_A_to_C ticks
timed = record { one_each = refl; per_step = per_step; not_below = not_below; not_above = not_above }
  where
    per_step : (i : ℕ) → i < 1 → length (slice_index_or ticks i []) ≡ last from_A_to_C i
    per_step zero lt = refl
    per_step (suc i) lt = absurd (omega (arith, lt))

    not_below : (i k : ℕ) → i < 1 → k < last from_A_to_C i → 1 ≤ slice_index_or (slice_index_or ticks i []) k 1
    not_below zero zero lt within = lit≤ tt
    not_below zero (suc zero) lt within = lit≤ tt
    not_below zero (suc (suc k)) lt within = absurd (omega (arith, within))
    not_below (suc i) k lt within = absurd (omega (arith, lt))

    not_above : (i k : ℕ) → i < 1 → k < last from_A_to_C i → slice_index_or (slice_index_or ticks i []) k 1 ≤ 1000
    not_above zero zero lt within = lit≤ tt
    not_above zero (suc zero) lt within = lit≤ tt
    not_above zero (suc (suc k)) lt within = absurd (omega (arith, within))
    not_above (suc i) k lt within = absurd (omega (arith, lt))

-- a step in no time
not_timed : AreTimes from_A_to_C ((7 ∷ 0 ∷ []) ∷ []) → ⊥
not_timed h = omega (arith, h.not_below 0 1 (lit< tt) (lit< tt))

linked_back : AreLinked two_points 1 0
linked_back = inr (0, lit< tt, refl)

named : AreNames (codes "A" ∷ codes "B" ∷ [])
named = are_names (codes "A" ∷ codes "B" ∷ []) refl refl

laid_out : IsLayout two_points
laid_out = record {
  few_points = lit≤ tt;
  few_links = lit≤ tt;
  some_zone = lit≤ tt;
  few_zones = lit≤ tt;
  named = named;
  zoned = zoned;
  used = used;
  joined = joined;
}
  where
    zoned : (q : ℕ) → q < 2 → zone two_points q < 2
    zoned zero lt = lit< tt
    zoned (suc zero) lt = lit< tt
    zoned (suc (suc q)) lt = absurd (omega (arith, lt))

    used : (z : ℕ) → z < 2 → (q : ℕ) × (q < 2) × (zone two_points q ≡ z)
    used zero lt = (1, lit< tt, refl)
    used (suc zero) lt = (0, lit< tt, refl)
    used (suc (suc z)) lt = absurd (omega (arith, lt))

    joined : (k : ℕ) (link : Link) → slice_get two_points.links k ≡ Some link → (link.first < 2) × (link.second < 2) × (link.first ≢ link.second)
    joined zero link there =
        let same : record { first = 0; second = 1 } ≡ link = cc in
        subst (λ (l : Link). (l.first < 2) × (l.second < 2) × (l.first ≢ l.second)) same (lit< tt, lit< tt, λ e. cc)
    joined (suc k) link there = absurd cc

-- a third zone would have no point
not_laid_out : IsLayout (record two_points { zones = 3 }) → ⊥
not_laid_out h = let w = h.used 2 (lit< tt) in none w.0 w.1 w.2
  where
    none : (q : ℕ) → q < 2 → zone two_points q ≡ 2 → ⊥
    none zero lt e = cc
    none (suc zero) lt e = cc
    none (suc (suc q)) lt e = omega (arith, lt)

-- the third name is the first one again
doubled : IsFirstDouble (codes "A" ∷ codes "B" ∷ codes "A" ∷ []) 0 2
doubled = first_double-some (codes "A" ∷ codes "B" ∷ codes "A" ∷ []) 0 2 refl
