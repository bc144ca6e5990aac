-- Worked rows: steps, and levels of points.
use Rattle.std.proofs.Common.{◌≡◌, ℕ, zero, suc, ◌+◌, ◌<◌, ◌≤◌, List, [], ◌∷◌, Some, refl, sym, subst, lit<, lit≤, arith, false}
use Rattle.std.specs.Prelude.{All, slice_index}
use Rattle.rail_model.specs.Table.{Mission, point}
use Rattle.forbidden_states.specs.Forbid.{unmarked}
use Rattle.ring_sections.specs.declared.levels.Step.{Step}
use Rattle.ring_sections.specs.Ring.{Pair, point_at, next_point}
use Rattle.ring_sections.specs.Search.{standing_at, standing}
use Rattle.ring_sections.specs.Levels.{IsStep, IsStepMade, MakesStep, AreStepsBelow, IsStepBelow, IsSettled, AreLevels, IsChart}
use Rattle.ring_sections.proofs.PointBounds.{low_points}
use Rattle.ring_sections.proofs.RingRows.{uneven}

-- T1 goes from point 5 to point 2
is_step : IsStep uneven (record { train = 1; from = 5; to = 2 })
is_step = ((1, 1), refl, refl)

not_step : IsStep (record { points = 5 ∷ 2 ∷ []; exits = false } ∷ []) (record { train = 0; from = 2; to = 5 }) → ⊥
not_step ((zero, zero), from, to) = cc
not_step ((zero, suc zero), from, to) = cc
not_step ((zero, suc (suc k)), from, to) = cc
not_step ((suc i, k), from, to) = cc

-- a step of T3 does for one of T1 between the same points
abbrev some_steps : List Step
some_steps = record { train = 3; from = 5; to = 2 } ∷ []

is_made : IsStepMade some_steps (record { train = 1; from = 5; to = 2 })
is_made = (record { train = 3; from = 5; to = 2 }, (0, lit< tt, refl), refl, refl, lit≤ tt)

not_made : IsStepMade some_steps (record { train = 4; from = 5; to = 2 }) → ⊥
not_made (t, (zero, lt, same), from, to, later) = let last : 4 ≤ 3 = subst (λ (s : Step). 4 ≤ s.train) (sym same) later in omega arith
not_made (t, (suc k, lt, same), from, to, later) = absurd (omega (arith, lt))

makes : MakesStep uneven some_steps 5 (1, 1)
makes b next = let same : 2 ≡ b = cc in subst (λ x. IsStepMade some_steps (record { train = 1; from = 5; to = x })) same is_made

-- one train from point 0 to point 1, and its step
abbrev one : List Mission
one = record { points = 0 ∷ 1 ∷ []; exits = false } ∷ []

are_steps : AreStepsBelow one 2 (record { train = 0; from = 0; to = 1 } ∷ [])
are_steps = record { are_steps = own; all = all }
  where
    own : All (IsStep one) (record { train = 0; from = 0; to = 1 } ∷ [])
    own zero d lt = ((0, 0), refl, refl)
    own (suc k) d lt = absurd (omega (arith, lt))

    all : (q : ℕ) → q < 2 → All (MakesStep one (record { train = 0; from = 0; to = 1 } ∷ []) q) (standing_at one q)
    all zero less zero d lt b next = let same : 1 ≡ b = cc in (record { train = 0; from = 0; to = 1 }, (0, lit< tt, refl), refl, same, lit≤ tt)
    all zero less (suc k) d lt b next = absurd (omega (arith, lt))
    all (suc zero) less k d lt b next = absurd (omega (arith, lt))
    all (suc (suc q)) less k d lt b next = absurd (omega (arith, less))

step_is_missing : AreStepsBelow one 2 [] → ⊥
step_is_missing are = let made = are.all 0 (lit< tt) 0 (0, 0) (lit< tt) 1 refl in absurd (omega (arith, made.1.1))

step_below : IsStepBelow 7 (record { train = 1; from = 1; to = 6 })
step_below = (lit< tt, lit< tt)

step_not_below : IsStepBelow 6 (record { train = 1; from = 1; to = 6 }) → ⊥
step_not_below low = omega (arith, low.1)

-- how far it is to point 1 by steps of T1
abbrev levels : List ℕ
levels = 9 ∷ 0 ∷ 1 ∷ 9 ∷ 3 ∷ 2 ∷ 9 ∷ []

settled : IsSettled 0 levels (record { train = 1; from = 5; to = 2 })
settled above = lit≤ tt

-- a step of T0 is none of a later train than T0
settled_not_above : IsSettled 0 levels (record { train = 0; from = 0; to = 1 })
settled_not_above above = absurd (omega (arith, above))

not_settled : IsSettled 0 levels (record { train = 1; from = 0; to = 1 }) → ⊥
not_settled low = let nine : 9 ≤ 1 = low (lit< tt) in omega arith

are_levels : AreLevels uneven (0, 1) levels
are_levels = record { goal = goal; steps = steps }
  where
    goal : (q : ℕ) → Some 1 ≡ Some q → slice_index levels q ≡ 0
    goal q e = let same : 1 ≡ q = cc in subst (λ x. slice_index levels x ≡ 0) same refl

    down : (a b c d : ℕ) → slice_index levels c ≤ slice_index levels d + 1 → Some c ≡ Some a → Some d ≡ Some b → slice_index levels a ≤ slice_index levels b + 1
    down a b c d low from to = let here : c ≡ a = cc in let there : d ≡ b = cc in subst (λ x. slice_index levels x ≤ slice_index levels b + 1) here (subst (λ x. slice_index levels c ≤ slice_index levels x + 1) there low)

    steps : (w : Pair) (a b : ℕ) → 0 < w.0 → w.0 < 2 → point_at uneven w ≡ Some a → next_point uneven w ≡ Some b → slice_index levels a ≤ slice_index levels b + 1
    steps (zero, k) a b some lt from to = absurd (omega (arith, some))
    steps (suc zero, zero) a b some lt from to = down a b 4 5 (lit≤ tt) from to
    steps (suc zero, suc zero) a b some lt from to = down a b 5 2 (lit≤ tt) from to
    steps (suc zero, suc (suc zero)) a b some lt from to = down a b 2 1 (lit≤ tt) from to
    steps (suc zero, suc (suc (suc zero))) a b some lt from to = down a b 1 6 (lit≤ tt) from to
    steps (suc zero, suc (suc (suc (suc zero)))) a b some lt from to = absurd cc
    steps (suc zero, suc (suc (suc (suc (suc k))))) a b some lt from to = absurd cc
    steps (suc (suc i), k) a b some lt from to = absurd (omega (arith, lt))

is_chart : IsChart uneven (standing uneven 7) levels (0, 1)
is_chart = record { trains = lit≤ tt; points = points; places = refl; levels = are_levels }
  where
    points : (i k q : ℕ) → point (unmarked uneven) i k ≡ Some q → q < 7
    points zero k q e = low_points (0 ∷ 1 ∷ 2 ∷ 3 ∷ []) 7 k q refl e
    points (suc zero) k q e = low_points (4 ∷ 5 ∷ 2 ∷ 1 ∷ 6 ∷ []) 7 k q refl e
    points (suc (suc i)) k q e = absurd cc
