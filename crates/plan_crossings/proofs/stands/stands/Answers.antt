use Rattle.std.proofs.Common.{◌∙◌, ap, [], false, List, ℕ, subst, arith, below_more}
use Rattle.std.proofs.lemmas.List.{get_or_read}
use Rattle.plan_crossings.specs.States.{Route}
use Rattle.plan_crossings.specs.Stands.{KnowRoute}
use Rattle.plan_crossings.proofs.stands.stands.Goals as goal

pub loop-route-preserved : goal.loop-route-preserved
loop-route-preserved c =
    let read = get_or_read c.args.routes.now c.loop-route.route-index c.route-item.result (omega arith) c.route-item.is
    (record { points = []; exits = false }) in
    below_more _ _ (λ i l k m. c.in_ok-add_stands.ensures.kept _ (c.loop-route.invariant i l k m))
    (subst (λ (route : List ℕ). KnowRoute c.args.crossing.now route c.add_stands.new.stands.items)
    (c.points.ensures ∙ ap (λ (r : Route). r.points) read) c.in_ok-add_stands.ensures.added)

pub returns : goal.returns
returns c = λ i l. c.loop-route.invariant i (omega arith)
