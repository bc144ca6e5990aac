-- Rows of missions, and of the missions and tables of a layout.
use Rattle.std.proofs.Common.{◌≡◌, ℕ, zero, suc, ◌+◌, ◌<◌, true, false, List, [], ◌∷◌, Some, refl, subst, arith, lit<, lit≤, inl, inr}
use Rattle.std.specs.Prelude.{slice_get}
use Rattle.rail_model.specs.Layout.{AreLinked}
use Rattle.rail_model.specs.Table.{Mission, IsMission}
use Rattle.rail_model.specs.Ways.{IsMissionOf, IsOn}
use Rattle.rail_model.specs.Checks.{is_mission, are_missions}
use Rattle.rail_model.proofs.MissionTests.{Decides-mission}
use Rattle.rail_model.proofs.Samples.{one_train, two_points}

abbrev way : List ℕ → Mission
way points = record { points = points; exits = false }

-- A B A: a way may come back
there_and_back : IsMission (way (0 ∷ 1 ∷ 0 ∷ []))
there_and_back = (Decides-mission (way (0 ∷ 1 ∷ 0 ∷ []))).0 refl

-- A A: no step stays at its point
no_step : IsMission (way (0 ∷ 0 ∷ [])) → ⊥
no_step h = h.steps 0 0 0 refl refl refl

not_tested : is_mission (way (0 ∷ 0 ∷ [])) ≡ false
not_tested = refl

two_tested : are_missions (way (0 ∷ 1 ∷ []) ∷ way (2 ∷ 1 ∷ 0 ∷ []) ∷ []) ≡ true
two_tested = refl

-- the points end at 511
last_point : IsMission (way (511 ∷ 0 ∷ []))
last_point = (Decides-mission (way (511 ∷ 0 ∷ []))).0 refl

no_point : IsMission (way (0 ∷ 512 ∷ [])) → ⊥
no_point h = omega (arith, h.low_points 1 512 refl)

-- A B A over the layout of A and B
of_layout : IsMissionOf two_points (way (0 ∷ 1 ∷ 0 ∷ []))
of_layout = record { some_point = lit≤ tt; few_places = lit≤ tt; points = points; linked = linked }
  where
    points : (k q : ℕ) → slice_get (0 ∷ 1 ∷ 0 ∷ []) k ≡ Some q → q < 2
    points zero q at = let is : 0 ≡ q = cc in omega (arith, is)
    points (suc zero) q at = let is : 1 ≡ q = cc in omega (arith, is)
    points (suc (suc zero)) q at = let is : 0 ≡ q = cc in omega (arith, is)
    points (suc (suc (suc k))) q at = absurd cc

    linked : (k p q : ℕ) → slice_get (0 ∷ 1 ∷ 0 ∷ []) k ≡ Some p → slice_get (0 ∷ 1 ∷ 0 ∷ []) (k + 1) ≡ Some q → AreLinked two_points p q
    linked zero p q at next =
        let here : 0 ≡ p = cc in
        let there : 1 ≡ q = cc in
        subst (λ a. AreLinked two_points a q) here (subst (AreLinked two_points 0) there (inl (0, lit< tt, refl)))
    linked (suc zero) p q at next =
        let here : 1 ≡ p = cc in
        let there : 0 ≡ q = cc in
        subst (λ a. AreLinked two_points a q) here (subst (AreLinked two_points 1) there (inr (0, lit< tt, refl)))
    linked (suc (suc zero)) p q at next = absurd cc
    linked (suc (suc (suc k))) p q at next = absurd cc

-- there is no third point
not_of_layout : IsMissionOf two_points (way (0 ∷ 2 ∷ [])) → ⊥
not_of_layout h = omega (arith, h.points 1 2 refl)

-- and without the link no step
unlinked : IsMissionOf (record two_points { links = [] }) (way (0 ∷ 1 ∷ [])) → ⊥
unlinked h = elim (h.linked 0 0 1 refl refl) [ inl there ↦ omega (arith, there.1) | inr there ↦ omega (arith, there.1) ]

on_layout : IsOn two_points (one_train (1 ∷ 0 ∷ []))
on_layout zero zero q at = let is : 1 ≡ q = cc in omega (arith, is)
on_layout zero (suc zero) q at = let is : 0 ≡ q = cc in omega (arith, is)
on_layout zero (suc (suc k)) q at = absurd cc
on_layout (suc i) k q at = absurd cc

not_on_layout : IsOn two_points (one_train (0 ∷ 2 ∷ [])) → ⊥
not_on_layout h = omega (arith, h 0 1 2 refl)
