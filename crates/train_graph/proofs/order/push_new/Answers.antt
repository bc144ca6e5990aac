use Rattle.std.proofs.Common.{◌≡◌, ◌∙◌, ◌==◌, List, sym, ap, subst, false}
use Rattle.std.specs.List.{list_any}
use Rattle.train_graph.specs.Rows.{Adds}
use Rattle.train_graph.proofs.Rows.{adds_new}
use Rattle.train_graph.proofs.order.push_new.Goals as goal

pub returns-in_ok-push-clause-adds : goal.returns-in_ok-push-clause-adds
returns-in_ok-push-clause-adds c =
    let points = c.args.points.now.items in
    let p = c.in-Some.point in
    let absent : list_any (λ q. q == p) points ≡ false =
    ap (λ (list : List _). list_any (λ q. q == p) list) (sym c.deref.ensures.value) ∙ sym c.contains.ensures.value ∙ c.if-not-contains.true in
    subst (λ (after : List _). Adds points after) (sym c.in_ok-push.ensures.items) (adds_new points p absent)
