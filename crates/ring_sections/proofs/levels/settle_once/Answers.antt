use Rattle.std.proofs.Common.{◌≡◌, ◌<◌, Bool, true, false, List, ℕ, sum, take, ◌∙◌, sym, subst, arith}
use Rattle.std.specs.Prelude.{All}
use Rattle.std.proofs.lemmas.List.{take_all}
use Rattle.std.proofs.lemmas.List.Elements.{All-more}
use Rattle.ring_sections.specs.Levels.{IsSettled}
use Rattle.ring_sections.proofs.levels.settle_once.Goals as goal
use Rattle.ring_sections.proofs.levels.settle_once.Goals.{then-settle_step, else-settle_step}

-- lower than before, whether that had fallen or not
fallen : (b : Bool) (new before old : List ℕ) → sum new < sum before → (b ≡ true → sum before < sum old) → (b ≡ false → before ≡ old) → sum new < sum old
fallen b new before old lower falls kept = grind arith

pub loop-step-preserved : goal.loop-step-preserved
loop-step-preserved c = elim c.if-settle_step.branch [
  | then-settle_step w ↦ record {
    falls = λ _. fallen c.loop-step.falls c.settle_step.new.levels c.loop-step.levels c.args.levels.now (c.settle_step.ensures.falls w.if-settle_step.true) c.loop-step.invariant.falls c.loop-step.invariant.kept;
    kept = λ e. absurd (let h = w.falls-is in cc);
    lower = λ q. omega (arith, c.settle_step.ensures.lower q, c.loop-step.invariant.lower q);
    settled = λ e. absurd (let h = w.falls-is in cc);
  }
  | else-settle_step w ↦
      let same : c.settle_step.new.levels ≡ c.loop-step.levels = c.settle_step.ensures.kept w.if-settle_step.false in
      record {
        falls = λ e. subst (λ (levels : List ℕ). sum levels < sum c.args.levels.now) (sym same) (c.loop-step.invariant.falls (sym w.falls-is ∙ e));
        kept = λ e. same ∙ c.loop-step.invariant.kept (sym w.falls-is ∙ e);
        lower = λ q. omega (arith, c.settle_step.ensures.lower q, c.loop-step.invariant.lower q);
        settled = λ e. All-more (IsSettled c.args.above c.settle_step.new.levels) c.args.steps.now c.loop-step.step-index _ (omega arith)
            (subst (λ (levels : List ℕ). All (IsSettled c.args.above levels) (take c.loop-step.step-index c.args.steps.now)) (sym same) (c.loop-step.invariant.settled (sym w.falls-is ∙ e)))
            (c.settle_step.ensures.settled w.if-settle_step.false);
      }
]

pub returns-clause-settled : goal.returns-clause-settled
returns-clause-settled c = λ e.
    subst (All (IsSettled c.args.above c.loop-step.levels)) (take_all c.loop-step.step-index c.args.steps.now (omega arith)) (c.loop-step.invariant.settled e)
