use Rattle.live_answers.specs.Rows.{AreRows, Says}
use Rattle.live_session.specs.Answering.{IsRow}
use Rattle.live_session.proofs.lines.push_lines.Given as goal

abbrev pub invariant-loop-index : goal.invariant-loop-index
invariant-loop-index l =
    Says (AreRows (IsRow l.fired l.journal.names.now l.journal.state.now l.journal.tags.now l.journal.lines.now l.from)
    l.index) l.fn.out.items l.out.items
