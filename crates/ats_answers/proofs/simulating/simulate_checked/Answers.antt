use Rattle.ats_answers.proofs.Simulated.{simulated}
use Rattle.ats_answers.proofs.simulating.simulate_checked.Goals as goal

pub returns-clause-simulated : goal.returns-clause-simulated
returns-clause-simulated c =
    let checked = c.args.checked.now in
    let report = c.in_ok-report.report in
    let r = c.in_ok-report.ensures in
    simulated checked.doc checked.certs.items report.state.yard report.state.lines report.ticks.items report.last_tick _ c.report_of.ensures.formed
    c.requires.accepted r.done r.simulates r.soon c.in_ok-text_of_report.ensures
