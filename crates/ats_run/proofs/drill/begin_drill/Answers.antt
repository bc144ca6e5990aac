use Rattle.std.proofs.Common.{refl, sym, subst}
use Rattle.document_generator.specs.Generated.{generated}
use Rattle.ats_run.specs.Command.{IsDrilledInput}
use Rattle.ats_run.specs.Orders.{drill_crew}
use Rattle.ats_run.specs.Tasks.{TaskLeads}
use Rattle.ats_run.proofs.Drilling.{drill_from}
use Rattle.ats_run.proofs.drill.begin_drill.Goals as goal

pub returns-clause-leads : goal.returns-clause-leads
returns-clause-leads c =
    let checked = c.in_ok-checked.checked in
    let crew = drill_crew c.args.workers in
    let start = c.in_ok-task_at_start.ensures.start in
    subst (TaskLeads crew (λ written. IsDrilledInput crew (generated c.args.seed c.args.trains) written)) (sym start.1) (
      refl,
      c.in_ok-checked.ensures.offers,
      drill_from crew c.args.seed c.args.trains c.requires checked.doc c.in_ok-checked.ensures.document checked.certs.items c.in_ok-checked.ensures.made start.0 start.2,
    )
