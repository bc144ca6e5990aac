use Rattle.ats_run.proofs.Begun.{ended}
use Rattle.ats_run.proofs.answer.answer_alone.Goals as goal

pub returns-in-Goes : goal.returns-in-Goes
returns-in-Goes g c =
    ended c.args.order c.args.input.now _ _ _ c.in-Goes.is c.in_ok-checked.ensures c.end_alone.result c.end_alone.ensures.ends c.end_alone.ensures.memory
