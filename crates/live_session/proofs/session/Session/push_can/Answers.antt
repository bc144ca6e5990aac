use Rattle.std.proofs.Common.{List, ℕ, inl, subst, arith, ◌<◌}
use Rattle.rail_model.specs.Names.{Names}
use Rattle.live_yard.specs.declared.told.Told.{Told}
use Rattle.live_answers.specs.Seen.{Seen, IsTold}
use Rattle.live_answers.proofs.Saying.{on_ok}
use Rattle.live_answers.specs.Rows.{IsToldAnswer}
use Rattle.live_session.specs.States.{seen, trains}
use Rattle.live_session.proofs.session.Session.push_can.Goals as goal

pub returns : goal.returns
returns g c =
    let i = c.args.train in
    let within : i < trains c.args.self.now = omega (arith, c.if-trains-train.false, c.trains.ensures) in
    let page = c.page.result in
    let says = λ (N : Names) (v : Seen) (tag text : List ℕ).
    (told : Told) × IsTold v i told × IsToldAnswer N v tag i told text in
    on_ok c.push_told.result _ _
    (λ said. (
      said.0,
      inl (
        within,
        subst (λ (N : Names). says N (seen c.args.self.now) c.args.tag.now said.0) c.page.ensures.names
            (subst (λ (tag : List ℕ). says page.names.now (seen c.args.self.now) tag said.0) c.page.ensures.tag
            (subst (λ (v : Seen). says page.names.now v page.tag.now said.0) c.scene-scene.ensures.scene
            (c.told-told.result, c.told-told.ensures, said.1))),
      ),
      said.2,
    )) c.push_told.ensures
