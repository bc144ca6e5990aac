use Rattle.std.proofs.Common.{ℕ, ◌-◌, ◌∙◌, ◌++◌, List, length, refl, ap, subst}
use Rattle.rail_model.specs.declared.types.Line.{Line}
use Rattle.plain_yard.specs.Keeps.{PlainRun}
use Rattle.rail_model.specs.Names.{Names}
use Rattle.rail_model.specs.Yard.{Yard}
use Rattle.live_answers.proofs.Saying.{on_ok}
use Rattle.live_answers.specs.Rows.{AreRows}
use Rattle.live_session.specs.Answering.{IsFiredRow, IsLineRow}
use Rattle.live_session.specs.States.{SessionState}
use Rattle.live_session.proofs.Telling.{four}
use Rattle.live_session.proofs.session.Session.push_served.Goals as goal

pub returns : goal.returns
returns g c =
    let s = c.args.self.now in
    let served = c.args.served in
    let lines = c.lines-lines.ensures.lines in
    let own = c.in_ok-push_lines.ensures in
    let answer = c.in_ok-push_reply.ensures in
    let fired = c.in_ok-push_lines-2.ensures in
    let names = ap (λ (t : SessionState). t.names) c.self.view_is in
    let own_rows = λ (N : Names) (ls : List Line).
    AreRows (IsLineRow N ls c.args.start.line) (length ls - served.granted - c.args.start.line) own.0 in
    let own_told = subst (λ (N : Names). own_rows N s.dispatch.yard.run.lines) names
    (subst (λ (ls : List Line). own_rows c.self.inside.names.now ls) lines own.1) in
    let state = c.positions-state.ensures
    ∙ ap (λ (y : Yard). y.positions) (c.yard-2.ensures.yard ∙ ap (λ (r : PlainRun). r.yard) c.run.ensures.run)
    ∙ ap (λ y. y.run.yard.positions) c.yard.ensures.yard
    ∙ ap (λ (t : SessionState). t.dispatch.yard.run.yard.positions) c.self.view_is in
    let tags = ap (λ (t : SessionState). t.tags) c.self.view_is in
    let fired_rows = λ (N : Names) (p : List ℕ) (ts : List (List ℕ)) (ls : List Line).
    AreRows (IsFiredRow N p ts ls (length ls - served.granted)) served.granted fired.0 in
    let there = s.dispatch.yard.run.yard.positions in
    let wants_told = subst (λ (N : Names). fired_rows N there s.tags s.dispatch.yard.run.lines) names
    (subst (λ (ts : List (List ℕ)). fired_rows c.self.inside.names.now there ts s.dispatch.yard.run.lines) tags
    (subst (λ (p : List ℕ). fired_rows c.self.inside.names.now p c.self.inside.tags s.dispatch.yard.run.lines) state
    (subst (λ (ls : List Line). fired_rows c.self.inside.names.now c.positions-state.result.now c.self.inside.tags
    ls) lines fired.1))) in
    on_ok c.push_news_after.result _ _
    (λ said. (
      own.0 ++ (answer.0 ++ (fired.0 ++ said.0)),
      record {
        own = own.0;
        answer = answer.0;
        fired = fired.0;
        news = said.0;
        own_told = own_told;
        answered = answer.1;
        wants_told = wants_told;
        news_told = said.1;
        joined = refl;
      },
      four c.args.text.now.items _ _ _ _ own.0 answer.0 fired.0 said.0 own.2 answer.2 fired.2 said.2,
    )) c.push_news_after.ensures
