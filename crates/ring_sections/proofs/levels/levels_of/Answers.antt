use Rattle.std.proofs.Common.{◌≡◌, ◌≤◌, ℕ, zero, suc, List, [], ◌∷◌, Vec, Global, refl, rules, length, ◌∙◌, ap, subst, sym, arith}
use Rattle.std.specs.Prelude.{All, slice_index, slice_set}
use Rattle.std.proofs.lemmas.List.{take_all, take-append-le}
use Rattle.std.proofs.lemmas.Option.{same_Some}
use Rattle.ring_sections.specs.Levels.{IsStepBelow, AreLevels}
use Rattle.ring_sections.proofs.StepLists.{steps-below, settled-levels}
use Rattle.ring_sections.proofs.levels.levels_of.Goals as goal
use Rattle.ring_sections.proofs.levels.levels_of.Goals.{in-Some, in_default}

-- 0 is read where it was written, and after the end
set_zero : (xs : List ℕ) (i : ℕ) → slice_index (slice_set xs i 0) i ≡ 0
set_zero [] i = refl
set_zero (x ∷ xs) zero = refl
set_zero (x ∷ xs) (suc i) = set_zero xs i

pub settle-requires : goal.settle-requires
settle-requires c =
    let n : length c.deref_mut.result.now ≡ c.args.size = search rules in
    subst (λ m. All (IsStepBelow m) c.args.steps.now) (sym n)
    (steps-below c.args.missions.now c.args.size c.args.steps.now c.requires.size c.requires.steps.are_steps)

pub returns-clause-levels : goal.returns-clause-levels
returns-clause-levels c =
    let kept : length c.settle.new.levels ≡ length c.deref_mut.result.now = search rules in
    let n : c.match-point_of.levels.len ≡ length c.settle.new.levels = search rules in
    let low : (q : ℕ) → slice_index c.settle.new.levels q ≤ slice_index c.match-point_of.levels.items q =
    subst (λ (before : List ℕ). (q : ℕ) → slice_index c.settle.new.levels q ≤ slice_index before q) c.deref_mut.ensures.value c.settle.ensures.lower in
    subst (AreLevels c.args.missions.now c.args.first) (sym (take-append-le c.match-point_of.levels.len c.settle.new.levels _ (omega arith) ∙ take_all c.match-point_of.levels.len c.settle.new.levels (omega arith)))
    (settled-levels c.args.missions.now c.args.size c.args.steps.now c.args.first c.settle.new.levels c.requires.size c.requires.steps
    (elim c.match-point_of.branch [
      | in-Some w ↦ λ q at.
          let same : w.in-Some.goal ≡ q = same_Some w.in-Some.goal q (sym w.in-Some.is ∙ c.point_of.ensures ∙ at) in
          let zero_set : slice_index c.match-point_of.levels.items q ≡ 0 =
          ap (λ (v : Vec ℕ Global). slice_index v.items q) w.levels-is ∙ subst (λ j. slice_index (slice_set c.in_ok-levels.levels.items w.in-Some.goal 0) j ≡ 0) same (set_zero c.in_ok-levels.levels.items w.in-Some.goal) in
          let l = low q in
          omega arith
      | in_default w ↦ λ q at. absurd (w.in_default.not-Some q (c.point_of.ensures ∙ at))
    ])
    c.settle.ensures.settled)
