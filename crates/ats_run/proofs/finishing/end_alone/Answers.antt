use Rattle.ats_run.proofs.Finished.{alone_ends}
use Rattle.ats_run.proofs.finishing.end_alone.Goals as goal

pub returns-clause-ends : goal.returns-clause-ends
returns-clause-ends c =
    let D = c.args.checked.now.doc in
    let run = c.args.run in
    record {
      end = c.in_ok-end.end;
      ends = alone_ends D run.crew run.from c.in_ok-end.end c.in_ok-end.ensures.done c.requires.alone c.in_ok-end.ensures.round;
      keeps = c.in_ok-end.ensures.keeps;
      printed = c.in_ok-print.ensures;
    }
