use Rattle.std.proofs.Common.{◌≡◌, List, reverse, sym, subst}
use Rattle.std.specs.Prelude.{All, slice_set}
use Rattle.std.proofs.lemmas.List.Elements.{All-push}
use Rattle.cert_checker.specs.declared.walk.Step.{Step}
use Rattle.cert_checker.specs.Walked.{IsStepOf, waiting}
use Rattle.cert_checker.proofs.Steps.{next_overtakes, put_back}
use Rattle.cert_checker.proofs.walk.plan_back.Goals as goal

pub returns-then-is_next-clause-boxes : goal.returns-then-is_next-clause-boxes
returns-then-is_next-clause-boxes c r =
    subst (λ (steps : List Step). waiting (slice_set c.args.sums.now.ranges c.args.train r) (reverse steps) ≡ waiting c.args.sums.now.ranges (reverse steps)) c.deref.ensures.value
    (next_overtakes c.args.sums.now.ranges c.args.train r (reverse c.deref.result.now) (c.is_next.ensures c.if-is_next.true))

pub returns-clause-boxes : goal.returns-clause-boxes
returns-clause-boxes c r =
    subst (λ (steps : List Step). waiting (slice_set c.args.sums.now.ranges c.args.train r) (reverse steps) ≡ waiting c.args.sums.now.ranges (reverse c.args.steps.now.items))
    (sym c.in_ok-push.ensures.items)
    (put_back c.args.sums.now.ranges c.args.train r c.args.steps.now.items c.step_back.result c.step_back.ensures)

pub returns-clause-steps : goal.returns-clause-steps
returns-clause-steps c =
    let T = c.args.table.now in
    let i = c.args.train in
    let boxed = c.requires.sums.boxed in
    subst (λ (steps : List Step). All (λ step. IsStepOf T step) steps) (sym c.in_ok-push.ensures.items)
    (All-push (IsStepOf T) _ _ c.requires.steps
    (subst (IsStepOf T) (sym c.step_back.ensures) (record { train = c.requires.train; some = boxed.some_place i c.requires.train; in_range = boxed.in_range i c.requires.train })))
