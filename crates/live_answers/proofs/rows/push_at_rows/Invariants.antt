use Rattle.live_answers.specs.Rows.{AreRows, IsAtRow, Says}
use Rattle.live_answers.proofs.rows.push_at_rows.Given as goal

abbrev pub invariant-loop-train : goal.invariant-loop-train
invariant-loop-train l =
    Says (AreRows (IsAtRow l.page.names.now l.scene l.page.tag.now l.reports l.tolds) l.train) l.fn.out.items l.out.items
