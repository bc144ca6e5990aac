use Rattle.std.proofs.Common.{List, refl, sym, subst}
use Rattle.live_yard.specs.declared.told.Told.{Told}
use Rattle.live_lines.specs.Lines.{line_of}
use Rattle.live_lines.specs.Session.{session_words}
use Rattle.live_lines.specs.declared.session.SessionAnswer.TheVariants.{State}
use Rattle.live_answers.specs.Seen.{AreTold}
use Rattle.live_answers.proofs.Saying.{behind, on_ok}
use Rattle.live_answers.proofs.rows.push_state.Goals as goal

pub returns : goal.returns
returns c =
    let rows = c.in_ok-push_at_rows.ensures in
    let line = line_of c.args.page.now.tag.now (session_words (State c.args.counts)) in
    let told = subst (λ (tolds : List Told). AreTold c.args.scene.now tolds) (sym c.deref.ensures.value)
    c.in_ok-tolds.ensures.told in
    on_ok c.push_answer.result _ _
    (λ said. (
      _,
      (c.deref.result.now, rows.0, told, rows.1, refl),
      behind c.args.out.now.items c.push_at_rows.new.out.items line _ rows.0 rows.2 said,
    )) c.push_answer.ensures
