use Rattle.std.proofs.Common.{◌∙◌, arith}
use Rattle.ats_run.proofs.Finished.{is_setup, shared_ends, worked_keeps}
use Rattle.ats_run.proofs.finishing.end_by.Goals as goal

pub returns-clause-ends : goal.returns-clause-ends
returns-clause-ends g c =
    let D = c.args.checked.now.doc in
    let run = c.args.run in
    record {
      end = c.in_ok-end.end;
      ends = shared_ends D run.crew run.from c.in_ok-end.end c.in_ok-end.ensures.done c.layout-layout.result.now c.deref.result.now
          c.in_ok-worked.worked c.layout-layout.ensures.layout (c.deref.ensures.value ∙ c.requires.tables) (omega (arith, c.if-run-eq0.false)) c.in_ok-worked.ensures c.in_ok-end.ensures.round;
      keeps = c.in_ok-end.ensures.keeps;
      printed = c.in_ok-print.ensures;
    }

pub finish_from-requires-clause-keeps : goal.finish_from-requires-clause-keeps
finish_from-requires-clause-keeps g c =
    let D = c.args.checked.now.doc in
    let run = c.args.run in
    worked_keeps D run.crew c.layout-layout.result.now c.deref.result.now run.from c.in_ok-worked.worked (c.deref.ensures.value ∙ c.requires.tables)
    c.in_ok-worked.ensures

pub work-requires-clause-setup : goal.work-requires-clause-setup
work-requires-clause-setup g c loans held =
    let D = c.args.checked.now.doc in
    let run = c.args.run in
    is_setup D c.layout-layout.result.now c.deref.result.now run.from c.layout-layout.ensures.formed c.layout-layout.ensures.layout
    (c.deref.ensures.value ∙ c.requires.tables) c.requires.keeps
