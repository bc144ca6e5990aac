use Rattle.std.proofs.Common.{refl}
use Rattle.std.proofs.lemmas.Option.{slice_get-get_or}
use Rattle.live_answers.proofs.Saying.{behind, on_ok}
use Rattle.live_session.proofs.lines.push_row.Goals as goal

pub returns-then-fired : goal.returns-then-fired
returns-then-fired c =
    rw c.if-fired.true
    (on_ok c.push_fired.result _ _
    (λ said. (
      _,
      (_, slice_get-get_or c.args.journal.now.lines.now _ _ c.requires.within, refl),
      behind c.args.out.now.items c.push_journal_line.new.out.items _ _ _ c.in_ok-push_journal_line.ensures said,
    )) c.push_fired.ensures)

pub returns-else-fired : goal.returns-else-fired
returns-else-fired c =
    rw c.if-fired.false (
      _,
      (_, slice_get-get_or c.args.journal.now.lines.now _ _ c.requires.within, refl),
      c.in_ok-push_journal_line.ensures,
    )
