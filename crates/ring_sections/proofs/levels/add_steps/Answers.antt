use Rattle.std.proofs.Common.{◌-◌, arith, inl, inr, subst, sym}
use Rattle.std.proofs.lemmas.Bool.{cases_eq}
use Rattle.std.proofs.lemmas.List.{get_or_default}
use Rattle.ring_sections.specs.Ring.{pair_at}
use Rattle.ring_sections.specs.Levels.{MakesStep}
use Rattle.ring_sections.proofs.levels.add_steps.Goals as goal

pub loop-index-preserved : goal.loop-index-preserved
loop-index-preserved c =
    let after = c.add_step.new.steps.items in
    record {
      are_steps = c.in_ok-add_step.ensures.steps;
      kept = λ s made. c.in_ok-add_step.ensures.kept s (c.loop-index.invariant.kept s made);
      made = λ k least l. elim (cases_eq k (c.loop-index.index - 1)) [
        | inl same ↦ subst (λ j. MakesStep c.args.missions.now after c.args.from (pair_at c.args.pairs.now j)) (sym same) c.in_ok-add_step.ensures.made
        | inr other ↦ λ b next. c.in_ok-add_step.ensures.kept _ (c.loop-index.invariant.made k (omega arith) l b next)
      ];
    }

pub returns-clause-made : goal.returns-clause-made
returns-clause-made c = λ k d l.
    subst (MakesStep c.args.missions.now c.loop-index.steps.items c.args.from) (get_or_default c.args.pairs.now k (0, 0) d l)
    (c.loop-index.invariant.made k (omega arith) l)
