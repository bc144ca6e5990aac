use Rattle.std.proofs.Common.{◌+◌, get_or, false, refl, ◌∙◌, sym, subst}
use Rattle.std.proofs.lemmas.List.{drop_more}
use Rattle.rail_model.specs.declared.types.Node.TheVariants.{Split}
use Rattle.cert_checker.proofs.Visiting.{Visiting, passed, stops_at, closed, none_shown}
use Rattle.cert_checker.proofs.walk.visit_tree.Goals as goal

pub returns-then-not-is_good-clause-bad : goal.returns-then-not-is_good-clause-bad
returns-then-not-is_good-clause-bad c =
    let nodes = c.args.nodes.now in
    let index = c.loop-index.index in
    let n = get_or nodes index (Split 0 0) in
    stops_at c.args.table.now nodes c.args.first index c.args.sums.now.ranges _ _ n _ c.loop-index.invariant.visiting (drop_more nodes index (Split 0 0) c.loop-index-test.true) c.refusal.ensures

pub returns-then-not-advance-clause-good : goal.returns-then-not-advance-clause-good
returns-then-not-advance-clause-good c =
    let T = c.args.table.now in
    let nodes = c.args.nodes.now in
    let index = c.loop-index.index in
    let n = get_or nodes index (Split 0 0) in
    let behind = passed T nodes c.args.first index c.args.sums.now.ranges c.loop-index.sums.ranges _ n c.loop-index.invariant.visiting
    (drop_more nodes index (Split 0 0) c.loop-index-test.true) (c.if-not-is_good.ensures.0 refl) in
    closed T nodes c.args.first (index + 1) c.args.sums.now.ranges _ behind
    (sym c.in_ok-plan.ensures.boxes ∙ c.if-not-advance.ensures.boxes ∙ none_shown false _ _ refl (c.if-not-advance.ensures.ended refl))

pub loop-index-preserved : goal.loop-index-preserved
loop-index-preserved c =
    let T = c.args.table.now in
    let nodes = c.args.nodes.now in
    let index = c.loop-index.index in
    let n = get_or nodes index (Split 0 0) in
    let behind = passed T nodes c.args.first index c.args.sums.now.ranges c.loop-index.sums.ranges _ n c.loop-index.invariant.visiting
    (drop_more nodes index (Split 0 0) c.loop-index-test.true) (c.if-not-is_good.ensures.0 refl) in
    record {
      sums = c.if-not-advance.ensures.sums;
      steps = c.if-not-advance.ensures.steps;
      visiting = subst (Visiting T nodes c.args.first (index + 1) c.args.sums.now.ranges) (sym c.in_ok-plan.ensures.boxes ∙ c.if-not-advance.ensures.boxes) behind;
    }
