use Rattle.std.proofs.Common.{◌∙◌, ap}
use Rattle.plan_crossings.specs.Shapes.{ladder}
use Rattle.plan_crossed.specs.Numbered.{number_of}
use Rattle.plan_crossed.specs.Said.{points_said, text_of}
use Rattle.plan_crossed.proofs.entries.ladder_of.Goals as goal

pub returns : goal.returns
returns c =
    let points = c.args.plan.now.points.items in
    let over = c.in_ok-over.ensures ∙ ap (number_of points) (c.text_of.ensures ∙ ap text_of c.value_at.ensures) in
    let leads = c.deref.ensures.value ∙ c.in_ok-leads.ensures ∙ ap (points_said points) c.value_at-2.ensures in
    let roads = c.deref-2.ensures.value ∙ c.in_ok-roads.ensures ∙ ap (points_said points) c.value_at-3.ensures in
    c.in_ok-made.ensures ∙ (λ i. ladder (over i) (leads i) (roads i))
