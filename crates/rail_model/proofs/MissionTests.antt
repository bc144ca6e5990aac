-- The tests of missions say what the definitions say.
use Rattle.std.proofs.Common.{◌≡◌, ◌∙◌, ℕ, zero, suc, ◌+◌, ◌<◌, ◌==◌, true, false, not, ◌&&◌, List, [], ◌∷◌, length, zip, get_or, slice_get, Some, Decides, refl, sym, ap, subst, arith}
use Rattle.std.specs.Prelude.{◌≢◌, nat_lt}
use Rattle.std.specs.List.{list_all}
use Rattle.std.proofs.lemmas.Bool.Decides.{Decides-and, Decides-not, Decides-eqb, Decides-ltb, Decides-like, Decides-by_and}
use Rattle.std.proofs.lemmas.List.{get_or_default}
use Rattle.std.proofs.lemmas.Option.{slice_get_within, slice_get-get_or, get_or_from_slice_get}
use Rattle.rail_model.specs.Table.{Mission, last_of, IsMission, AreMissions}
use Rattle.rail_model.specs.Checks.{steps_on, is_mission, are_missions}
use Rattle.rail_model.proofs.Agree.{Decides-leb}

-- consecutive points are different
abbrev StepOn : List ℕ → Type 0
StepOn points = (k p q : ℕ) → slice_get points k ≡ Some p → slice_get points (suc k) ≡ Some q → p ≢ q

steps-cons : (a b : ℕ) (later : List ℕ) → a ≢ b → StepOn (b ∷ later) → StepOn (a ∷ b ∷ later)
steps-cons a b later apart h zero p q at next = λ same. apart cc
steps-cons a b later apart h (suc k) p q at next = h k p q at next

Decides-steps : (points : List ℕ) → Decides (steps_on points) (StepOn points)
Decides-steps [] = (λ e k p q at next. absurd cc, λ h. refl)
Decides-steps (a ∷ []) = (λ e. alone, λ h. refl)
  where
    alone : StepOn (a ∷ [])
    alone zero p q at next = absurd cc
    alone (suc k) p q at next = absurd cc
Decides-steps (a ∷ b ∷ later) =
    Decides-like (not (a == b) && steps_on (b ∷ later))
    (λ h. steps-cons a b later h.0 h.1)
    (λ h. (h 0 a b refl refl, λ k. h (suc k)))
    (Decides-and _ _ (Decides-not _ (Decides-eqb a b)) (Decides-steps (b ∷ later)))

-- each point of a list is low
abbrev AreLow : List ℕ → Type 0
AreLow points = (k q : ℕ) → slice_get points k ≡ Some q → q < 512

Decides-low : (points : List ℕ) → Decides (list_all (λ q. nat_lt q 512) points) (AreLow points)
Decides-low points =
    Decides-like (list_all (λ q. nat_lt q 512) points)
    (λ h k q at. subst (λ n. n < 512) (get_or_from_slice_get points k q 0 at) (h k 0 (slice_get_within points k q at)))
    (λ h k d lt. h k (get_or points k d) (slice_get-get_or points k d lt))
    (Decides-by_and (λ q. nat_lt q 512) (λ q. q < 512) (list_all (λ q. nat_lt q 512)) (λ q. Decides-ltb q 512) refl (λ _ _. refl) points)

one_more : (k : ℕ) → k + 1 ≡ suc k
one_more k = omega arith

pub Decides-mission : (m : Mission) → Decides (is_mission m) (IsMission m)
Decides-mission m =
    Decides-like (is_mission m)
    (λ h. record { some_point = h.0.0; few_places = h.0.1; low_points = h.1.0; steps = λ k p q at next. h.1.1 k p q at (ap (slice_get m.points) (sym (one_more k)) ∙ next) })
    (λ h. ((h.some_point, h.few_places), (h.low_points, λ k p q at next. h.steps k p q at (ap (slice_get m.points) (one_more k) ∙ next))))
    (Decides-and _ _
    (Decides-and _ _ (Decides-leb 1 (length m.points)) (Decides-leb (last_of m) 127))
    (Decides-and _ _ (Decides-low m.points) (Decides-steps m.points)))

abbrev none : Mission
none = record { points = []; exits = false }

pub Decides-missions : (missions : List Mission) → Decides (are_missions missions) (AreMissions missions)
Decides-missions missions =
    Decides-like (are_missions missions)
    (λ h. record { few = h.0; each = λ i lt. h.1 i none lt })
    (λ h. (h.few, λ i d lt. subst IsMission (get_or_default missions i none d lt) (h.each i lt)))
    (Decides-and _ _ (Decides-leb (length missions) 32)
    (Decides-by_and is_mission IsMission (list_all is_mission) Decides-mission refl (λ _ _. refl) missions))

pub missions_pass : (missions : List Mission) → are_missions missions ≡ true → AreMissions missions
missions_pass missions = (Decides-missions missions).0

-- the points and those after the first, place by place
pub steps-zipped : (p : ℕ) (later : List ℕ) → list_all (λ (pair : ℕ × ℕ). not (pair.0 == pair.1)) (zip (p ∷ later) later) ≡ steps_on (p ∷ later)
steps-zipped p [] = refl
steps-zipped p (q ∷ later) = ap (λ t. not (p == q) && t) (steps-zipped q later)
