use Rattle.std.proofs.Common.{[], ◌∷◌, Some, ap, map, sym, ◌∙◌}
use Rattle.std.specs.Prelude.{reverse}
use Rattle.toml.specs.View.{table_view, view}
use Rattle.plan_patterns.specs.Ways.{points_of}
use Rattle.plan_patterns.proofs.Members.{flat_view, reverse_view}
use Rattle.plan_patterns.proofs.Steps.{list_is, points_lost, points_unsaid}
use Rattle.plan_patterns.proofs.ways.+points.Goals as goal

pub along-returns-in_ok-points-in-Some-way_at : goal.along-returns-in_ok-points-in-Some-way_at
along-returns-in_ok-points-in-Some-way_at t c =
    let back = rw c.in-Some.is at c.behind_minus.ensures in
    let way = rw c.in-Some-way_at.is at c.way_at.ensures in
    let f = points_of c.args.steps (table_view c.args.ways.now) in
    let points = c.in_ok-points-in-Some-way_at.ensures ∙ sym (flat_view f c.in-Some-way_at.items.now) in
    rw (← back, ← way) (ap Some (ap (map view) c.reverse.ensures.items ∙ reverse_view c.in_ok-points-in-Some-way_at.points.items ∙ ap reverse points))

pub along-returns-in_ok-points_along-in-Some-way_at-2 : goal.along-returns-in_ok-points_along-in-Some-way_at-2
along-returns-in_ok-points_along-in-Some-way_at-2 t c =
    let back = rw c.in-None.is at c.behind_minus.ensures in
    let way = rw c.in-Some-way_at-2.is at c.way_at-in-None.ensures in
    let f = points_of c.args.steps (table_view c.args.ways.now) in
    let points = c.in_ok-points_along-in-Some-way_at-2.ensures ∙ sym (flat_view f c.in-Some-way_at-2.items.now) in
    rw (← back, ← way) (ap Some points)

pub points_of-returns-in-None : goal.points_of-returns-in-None
points_of-returns-in-None t c =
    let ways = table_view c.args.ways.now in
    let d = view c.args.value.now in
    let unsaid = rw c.in-None.is at c.said_by.ensures in
    let itself = points_unsaid c.args.steps ways d c.if-steps-eq0.false unsaid in
    list_is c.alone-in-None.result (d ∷ []) (points_of c.args.steps ways d) itself c.alone-in-None.ensures

pub points_of-returns-in-None-2 : goal.points_of-returns-in-None-2
points_of-returns-in-None-2 t c =
    let ways = table_view c.args.ways.now in
    let d = view c.args.value.now in
    let said = rw c.in-Some.is at c.said_by.ensures in
    let lost = rw c.in-None-2.is at c.in_ok-points-in-Some.ensures in
    let itself = points_lost c.args.steps ways d c.in-Some.said.now c.if-steps-eq0.false said lost in
    list_is c.alone-in-None-2.result (d ∷ []) (points_of c.args.steps ways d) itself c.alone-in-None-2.ensures
