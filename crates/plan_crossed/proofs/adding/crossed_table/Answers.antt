use Rattle.std.proofs.Common.{◌∙◌}
use Rattle.plan_crossed.specs.Numbered.{routes_by_numbers}
use Rattle.plan_crossed.proofs.With.{adds_sections}
use Rattle.plan_crossed.proofs.adding.crossed_table.Goals as goal

pub returns-in_ok-with_sections-in-Ok : goal.returns-in_ok-with_sections-in-Ok
returns-in_ok-with_sections-in-Ok c =
    let numbered = c.deref-2.ensures.value ∙ c.in_ok-routes.ensures ∙ (λ i. routes_by_numbers (c.deref.ensures.value i) c.args.table) in
    adds_sections c.args.crossings.now c.args.plan.now.points.items c.args.table c.in_ok-with_sections-in-Ok.field-0 c.in-Ok.sections.items
    c.deref-2.result.now numbered c.in-Ok.ensures.exact c.in-Ok.ensures.sized c.in-Ok.ensures.sound c.in_ok-with_sections-in-Ok.ensures
