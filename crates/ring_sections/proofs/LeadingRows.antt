-- Worked rows: a pair that leads back, and what is lost.
use Rattle.std.proofs.Common.{◌≡◌, ◌⊎◌, ℕ, zero, suc, ◌<◌, [], ◌∷◌, Some, refl, sym, subst, lit<, lit≤, arith, inl, inr}
use Rattle.std.specs.Prelude.{Contains}
use Rattle.std.proofs.lemmas.List.Elements.{All-nil, All-cons}
use Rattle.rail_model.specs.Table.{point}
use Rattle.ring_sections.specs.declared.leading.Reach.{Reach}
use Rattle.ring_sections.specs.declared.train_set.TrainSet.{TrainSet}
use Rattle.ring_sections.specs.Ring.{Pair, pair_at, point_at}
use Rattle.ring_sections.specs.Leading.{HasTrain, Avoids, count_outside, MayBeAt, LeadsBack, IsLost, IsLostBy, IsBehind, IsFurther, IsKnown, IsCovered}
use Rattle.ring_sections.proofs.RingRows.{uneven}
use Rattle.ring_sections.proofs.TrainSets.{has_only}

-- trains 0 and 2
abbrev two : TrainSet
two = record { bits = 5 }

abbrev none : TrainSet
none = record { bits = 0 }

abbrev second : TrainSet
second = record { bits = 2 }

has_2 : HasTrain two 2
has_2 = refl

has_not_1 : HasTrain two 1 → ⊥
has_not_1 has = cc

abbrev outside : TrainSet → Pair → Type 0
outside s w = HasTrain s w.0 → ⊥

avoids : Avoids two ((1, 4) ∷ (3, 0) ∷ [])
avoids = All-cons (outside two) (1, 4) ((3, 0) ∷ []) (λ has. cc) (All-cons (outside two) (3, 0) [] (λ has. cc) (All-nil (outside two)))

one_outside : count_outside two ((0, 1) ∷ (1, 2) ∷ (2, 7) ∷ []) ≡ 1
one_outside = refl

-- after T0 at point 1, with point 3 shut, T1 may be at point 2
may_stand : MayBeAt uneven ((0, 1) ∷ []) 3 2 (1, 2)
may_stand = record { pair = (lit< tt, lit< tt); stands = refl; fits = refl; free = free; open_point = λ e. cc }
  where
    free : (j : ℕ) × (j < 1) × (point_at uneven (pair_at ((0, 1) ∷ []) j) ≡ Some 2) → ⊥
    free (zero, lt, e) = cc
    free (suc j, lt, e) = omega (arith, lt)

-- it wants point 1
leads_back : LeadsBack uneven ((0, 1) ∷ []) 3 2 ((1, 2) ∷ [])
leads_back = (may_stand, All-nil _, (1, refl, refl))

abbrev reach : ℕ → ℕ → TrainSet → Reach
reach point left used = record { point = point; left = left; used = used }

-- from point 2 it takes one pair more
lost_without : IsLost uneven ((0, 1) ∷ []) 3 (reach 2 0 none)
lost_without [] few back unused = cc
lost_without (w ∷ later) few back unused = omega (arith, few)

not_lost : IsLost uneven ((0, 1) ∷ []) 3 (reach 2 1 none) → ⊥
not_lost lost = lost ((1, 2) ∷ []) (lit≤ tt) leads_back (All-cons (outside none) (1, 2) [] (λ has. cc) (All-nil (outside none)))

-- T1 is used
lost_by : IsLostBy uneven ((0, 1) ∷ []) 3 (reach 2 1 second) (1, 2)
lost_by later few back unused = unused 0 (1, 2) (omega arith) refl

is_behind : IsBehind uneven (reach 2 1 none) (1, 2) (reach 1 0 second)
is_behind = record { point = refl; left = refl; used = used }
  where
    used : (i : ℕ) → HasTrain second i → HasTrain none i ⊎ (i ≡ 1)
    used i has = elim (has_only none 1 i has) [ inl old ↦ inl old | inr same ↦ inr same ]

is_further : IsFurther (reach 2 1 none) (reach 2 4 second)
is_further = (refl, lit≤ tt)

is_further_not : IsFurther (reach 2 4 none) (reach 2 1 second) → ⊥
is_further_not further = omega (arith, further.1)

is_known : IsKnown (reach 7 9 none ∷ reach 2 4 second ∷ []) (reach 2 1 none) second
is_known = (reach 2 4 second, (1, lit< tt, refl), is_further, refl)

-- what avoids no train avoids none of the known one
is_covered : IsCovered (reach 2 4 none ∷ []) (reach 2 1 none) second 3
is_covered later few unused = (reach 2 4 none, (0, lit< tt, refl), (refl, lit≤ tt), unused)

-- T1 is no train of the hit, and is one that the known one has used
not_covered : IsCovered (reach 2 4 second ∷ []) (reach 2 1 none) two 1 → ⊥
not_covered covered = let c = covered ((1, 2) ∷ []) (lit≤ tt) (All-cons (outside none) (1, 2) [] (λ has. cc) (All-nil (outside none))) in meets c.0 c.1 c.3
  where
    meets : (other : Reach) → Contains (reach 2 4 second ∷ []) other → Avoids other.used ((1, 2) ∷ []) → ⊥
    meets other (zero, lt, e) unused = subst (λ (r : Reach). Avoids r.used ((1, 2) ∷ [])) (sym e) unused 0 (1, 2) (lit< tt) refl
    meets other (suc k, lt, e) unused = omega (arith, lt)
