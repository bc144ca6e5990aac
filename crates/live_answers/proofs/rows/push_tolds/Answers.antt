use Rattle.std.proofs.Common.{◌++◌, ap}
use Rattle.live_lines.specs.Lines.{line_of}
use Rattle.live_lines.specs.Session.{session_words}
use Rattle.live_answers.proofs.Saying.{behind, on_ok}
use Rattle.live_answers.proofs.rows.push_tolds.Goals as goal

pub returns : goal.returns
returns c =
    let rows = c.in_ok-push_told_rows.ensures in
    let line = line_of c.args.page.now.tag.now (session_words c.could_of.result) in
    on_ok c.push_answer.result _ _
    (λ said. (
      _,
      (
        c.args.tolds.now,
        rows.0,
        c.requires.told,
        rows.1,
        ap
            (λ a. rows.0 ++ line_of c.args.page.now.tag.now (session_words a)) c.could_of.ensures,
      ),
      behind c.args.out.now.items c.push_told_rows.new.out.items line _ rows.0 rows.2 said,
    )) c.push_answer.ensures
