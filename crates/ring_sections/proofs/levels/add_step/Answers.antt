use Rattle.std.proofs.Common.{◌∙◌, List, refl, sym, subst, arith}
use Rattle.std.specs.Prelude.{All, Contains}
use Rattle.std.proofs.lemmas.List.Elements.{All-push, Contains-push}
use Rattle.std.proofs.lemmas.Option.{same_Some}
use Rattle.ring_sections.specs.declared.levels.Step.{Step}
use Rattle.ring_sections.specs.Levels.{IsStep}
use Rattle.ring_sections.proofs.levels.add_step.Goals as goal

pub returns-in_ok-push-clause-steps : goal.returns-in_ok-push-clause-steps
returns-in_ok-push-clause-steps c =
    let M = c.args.missions.now in
    let s : Step = record { train = c.args.pair.0; from = c.args.from; to = c.in-Some.to } in
    subst (All (IsStep M)) (sym c.in_ok-push.ensures.items)
    (All-push (IsStep M) c.args.steps.now.items s c.requires.steps (c.args.pair, c.requires.stands, sym c.next_point_of.ensures ∙ c.in-Some.is))

pub returns-in_ok-push-clause-made : goal.returns-in_ok-push-clause-made
returns-in_ok-push-clause-made c = λ b next.
    let s : Step = record { train = c.args.pair.0; from = c.args.from; to = c.in-Some.to } in (
      s,
      subst (λ (all : List Step). Contains all s) (sym c.in_ok-push.ensures.items) (Contains-push c.args.steps.now.items s),
      refl,
      same_Some c.in-Some.to b (sym c.in-Some.is ∙ c.next_point_of.ensures ∙ next),
      omega arith,
    )
