use Rattle.live_answers.specs.Rows.{AreRows, Says}
use Rattle.live_answers.specs.Since.{IsSinceRow}
use Rattle.live_answers.proofs.since.push_since_rows.Given as goal

abbrev pub invariant-loop-index : goal.invariant-loop-index
invariant-loop-index l = Says (AreRows (IsSinceRow l.page.names.now l.page.tag.now l.lines l.from) l.index) l.fn.out.items l.out.items
