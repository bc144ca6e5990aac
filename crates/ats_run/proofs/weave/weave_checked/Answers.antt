use Rattle.ats_run.proofs.Woven.{woven_keeps, woven_run}
use Rattle.ats_run.proofs.weave.weave_checked.Goals as goal

pub finish_from-requires-clause-keeps : goal.finish_from-requires-clause-keeps
finish_from-requires-clause-keeps c =
    woven_keeps c.args.checked.now.doc c.state_after.ensures.formed c.args.seed c.args.turns c.in_ok-state.ensures.legal c.in_ok-state.state c.in_ok-state.ensures.plain

pub returns-clause-woven : goal.returns-clause-woven
returns-clause-woven c =
    woven_run c.args.checked.now.doc c.state_after.ensures.formed c.args.seed c.args.turns c.in_ok-state.ensures.legal c.in_ok-state.state c.in_ok-state.ensures.plain
    c.args.checked.now.certs.items c.in_ok-end.end.yard c.in_ok-end.end.lines _ c.requires.accepted c.in_ok-end.ensures.done c.in_ok-end.ensures.round
    c.in_ok-text_of_run.ensures
