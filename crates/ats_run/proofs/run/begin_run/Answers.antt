use Rattle.std.proofs.Common.{refl, sym, subst}
use Rattle.ats_run.specs.Command.{IsRunInput}
use Rattle.ats_run.specs.Tasks.{TaskLeads}
use Rattle.shared_run.specs.Crews.{crew_of}
use Rattle.ats_run.proofs.Begun.{run_leads}
use Rattle.ats_run.proofs.run.begin_run.Goals as goal

pub returns-clause-leads : goal.returns-clause-leads
returns-clause-leads g c =
    let checked = c.in_ok-checked.checked in
    let input = c.args.input.now in
    let crew = crew_of c.args.workers c.args.rounds c.args.block in
    let start = c.in_ok-task_at_start.ensures.start in
    subst (TaskLeads crew (λ written. IsRunInput crew input written)) (sym start.1) (
      refl,
      c.in_ok-checked.ensures.offers,
      run_leads checked.doc checked.certs.items crew input start.0 c.task_at_start.ensures.formed c.in_ok-checked.ensures.accepted
          c.in_ok-checked.ensures.document start.2,
    )
