use Rattle.std.specs.Prelude.{slice_index}
use Rattle.live_answers.specs.Seen.{told_at}
use Rattle.live_answers.specs.Rows.{AreRows, IsToldRow, Says}
use Rattle.live_answers.proofs.why.push_rows_of.Given as goal

abbrev pub invariant-loop-index : goal.invariant-loop-index
invariant-loop-index l =
    Says (AreRows (λ k. IsToldRow l.page.names.now l.scene l.page.tag.now (slice_index l.waiting k)
    (told_at l.tolds (slice_index l.waiting k))) l.index)
    l.fn.out.items l.out.items
