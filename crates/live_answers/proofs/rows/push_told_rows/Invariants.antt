use Rattle.live_answers.specs.Seen.{told_at}
use Rattle.live_answers.specs.Rows.{AreRows, IsToldRow, Says}
use Rattle.live_answers.proofs.rows.push_told_rows.Given as goal

abbrev pub invariant-loop-train : goal.invariant-loop-train
invariant-loop-train l =
    Says (AreRows (λ i. IsToldRow l.page.names.now l.scene l.page.tag.now i (told_at l.tolds i)) l.train) l.fn.out.items l.out.items
