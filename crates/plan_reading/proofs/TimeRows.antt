-- Worked rows and laws: whether times are those that are said for the steps of a route.
use Rattle.std.proofs.Common.{◌≡◌, ℕ, ◌+◌, suc, ℤ, pos, List, [], ◌∷◌, length, map, Bool, true, false, Option, Some, None, String, Global, if◌then◌else◌, refl, ap, ◌∙◌, length-append}
use Rattle.std.proofs.lemmas.Bool.{and_parts}
use Rattle.std.proofs.lemmas.List.{length-map}
use Rattle.std.specs.Cmp.Lexicographic.{pointwise}
use Rattle.std.specs.Ordering.{int_eq}
use Rattle.toml.specs.Data.{Data}
use Rattle.plan_making.specs.Timed.{step_time, steps, times_said, usual_time}
use Rattle.plan_making.proofs.TimeRows.{Corridor, as_many_steps, dwell, times}
use Rattle.plan_reading.specs.Timed.{are_times}

-- from A over B to C: 3 and 2, and 2 for the step out of the layout, if the train exits
pub leaves : (a b c : String Global) → Corridor a b c → are_times (Some times) None (a ∷ b ∷ c ∷ []) true (3 ∷ 2 ∷ 2 ∷ []) ≡ true
leaves a b c at = rw (at.at_a, at.at_b)

pub all_usual : (a b c : String Global) → Corridor a b c → are_times (Some times) None (a ∷ b ∷ c ∷ []) false (2 ∷ 2 ∷ []) ≡ false
all_usual a b c at = rw (at.at_a, at.at_b)

pub too_few : (a b c : String Global) → Corridor a b c → are_times (Some times) None (a ∷ b ∷ c ∷ []) true (3 ∷ 2 ∷ []) ≡ false
too_few a b c at = rw (at.at_a, at.at_b)

-- with 1 at B and 4 at C: 4 and 6; 2 for the step out of the layout, which has no dwell
pub stands : (a b c : String Global) → Corridor a b c → are_times (Some times) (Some dwell) (a ∷ b ∷ c ∷ []) true (4 ∷ 6 ∷ 2 ∷ []) ≡ true
stands a b c at = rw (at.at_a, at.at_b, at.at_c)

pub does_not_stand : (a b c : String Global) → Corridor a b c → are_times (Some times) (Some dwell) (a ∷ b ∷ c ∷ []) true (3 ∷ 2 ∷ 2 ∷ []) ≡ false
does_not_stand a b c at = rw (at.at_a, at.at_b)

-- it stands at A too, if it comes to it, but not where its route begins
pub stands_twice : (a b c : String Global) → Corridor a b c → are_times None (Some dwell) (a ∷ b ∷ a ∷ b ∷ []) false (2 ∷ 5 ∷ 2 ∷ []) ≡ true
stands_twice a b c at = rw (at.at_a, at.at_b)

-- the laws: a train has as many times as its route has steps, and one more if it exits
count_same : (said : List ℤ) (those : List ℕ) → pointwise int_eq said (map pos those) ≡ true → length those ≡ length said
count_same [] [] same = refl
count_same [] (t ∷ those) same = cc
count_same (z ∷ said) [] same = cc
count_same (z ∷ said) (t ∷ those) same = ap suc (count_same said those (and_parts (int_eq z (pos t)) (pointwise int_eq said (map pos those)) same).1)

count_out : (usual : ℤ) (exits : Bool) → length (if exits then usual ∷ [] else []) ≡ (if exits then 1 else 0)
count_out usual true = refl
count_out usual false = refl

pub as_many_times : (said dwell : Option Data) (first : String Global) (later : List (String Global)) (exits : Bool) (those : List ℕ)
    → are_times said dwell (first ∷ later) exits those ≡ true → length those ≡ length later + (if exits then 1 else 0)
as_many_times said dwell first later exits those agree =
    count_same (times_said said dwell (first ∷ later) exits) those agree
    ∙ length-append (map (λ s. step_time said dwell s.0 s.1) (steps (first ∷ later))) (if exits then usual_time said ∷ [] else [])
    ∙ ap (λ n. n + length (if exits then usual_time said ∷ [] else [])) (length-map (steps (first ∷ later)) (λ s. step_time said dwell s.0 s.1) ∙ as_many_steps first later)
    ∙ ap (λ n. length later + n) (count_out (usual_time said) exits)
