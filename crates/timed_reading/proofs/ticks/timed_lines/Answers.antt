use Rattle.timed_reading.proofs.Texts.{reads_more}
use Rattle.timed_reading.proofs.ticks.timed_lines.Goals as goal

pub loop-rest-preserved : goal.loop-rest-preserved
loop-rest-preserved c =
    reads_more c.args.names.now c.args.journal.now c.loop-rest.lines.items c.loop-rest.rest.now c.in-Some.words.now c.in-Some.later.now
    c.loop-rest.invariant c.in-Some.ensures c.push_line.new.lines.items c.in_ok-push_line.ensures
