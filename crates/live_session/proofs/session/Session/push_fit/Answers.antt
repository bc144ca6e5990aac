use Rattle.std.proofs.Common.{List, ℕ, ◌++◌, ◌∙◌, ap, refl}
use Rattle.rail_model.specs.Names.{Names}
use Rattle.live_answers.proofs.Saying.{on_ok}
use Rattle.live_lines.specs.Lines.{line_of}
use Rattle.live_lines.specs.Tables.{table_words}
use Rattle.live_session.proofs.session.Session.push_fit.Goals as goal

pub returns : goal.returns
returns g c =
    let fit = c.fit-fit.result in
    let before = c.args.text.now.items in
    let tag = ap (λ (t : List ℕ). before ++ line_of t (table_words c.page.result.names.now fit)) c.page.ensures.tag in
    let names = ap (λ (N : Names). before ++ line_of c.args.tag.now (table_words N fit)) c.page.ensures.names in
    on_ok c.push_answer.result _ _
    (λ said. (_, (fit, c.fit-fit.ensures.fit, refl), said ∙ tag ∙ names)) c.push_answer.ensures
