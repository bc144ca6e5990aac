use Rattle.std.proofs.Common.{◌++◌, ◌∷◌, [], List, reverse, ◌∙◌, ap, sym, subst, arith}
use Rattle.std.specs.Prelude.{All}
use Rattle.std.proofs.lemmas.List.Elements.{All-push}
use Rattle.rail_model.specs.declared.types.Node.{Node}
use Rattle.rail_model.specs.Certificate.{IsGood, IsSplit}
use Rattle.cert_checker.specs.declared.walk.Step.{Step}
use Rattle.cert_tree.specs.Open.{opened}
use Rattle.cert_checker.specs.Walked.{IsStepOf, waiting}
use Rattle.cert_checker.proofs.Steps.{planned}
use Rattle.cert_checker.proofs.walk.plan.Goals as goal

pub returns-in_ok-push-2-clause-boxes : goal.returns-in_ok-push-2-clause-boxes
returns-in_ok-push-2-clause-boxes c =
    let B = c.args.sums.now.ranges in
    let old = c.args.steps.now.items in
    let pushed = c.in_ok-push-2.ensures.items
    ∙ ap (λ (steps : List Step). steps ++ c.step_left.result ∷ []) c.in_ok-push.ensures.items in
    ap (λ (steps : List Step). waiting B (reverse steps)) pushed
    ∙ planned B c.in-Split.train c.in-Split.place c.plan_back.new.steps.items old _ _ c.in_ok-plan_back.ensures.boxes c.step_right.ensures c.step_left.ensures
    ∙ ap (λ (n : Node). opened B n (waiting B (reverse old))) (sym c.in-Split.is)

pub returns-in_ok-push-2-clause-steps : goal.returns-in_ok-push-2-clause-steps
returns-in_ok-push-2-clause-steps c =
    let T = c.args.table.now in
    let B = c.args.sums.now.ranges in
    let i = c.in-Split.train in
    let m = c.in-Split.place in
    let good : IsSplit T B i m = subst (IsGood T B) c.in-Split.is c.requires.good in
    let ends = c.requires.sums.boxed.in_range i good.0 in
    let pushed = c.in_ok-push-2.ensures.items
    ∙ ap (λ (steps : List Step). steps ++ c.step_left.result ∷ []) c.in_ok-push.ensures.items in
    let right : IsStepOf T c.step_right.result = subst (IsStepOf T) (sym c.step_right.ensures) (record { train = good.0; some = omega (arith, good); in_range = ends }) in
    let left : IsStepOf T c.step_left.result = subst (IsStepOf T) (sym c.step_left.ensures) (record { train = good.0; some = good.1; in_range = omega (arith, good, ends) }) in
    subst (λ (steps : List Step). All (λ step. IsStepOf T step) steps) (sym pushed)
    (All-push (IsStepOf T) _ _ (All-push (IsStepOf T) _ _ c.in_ok-plan_back.ensures.steps right) left)
