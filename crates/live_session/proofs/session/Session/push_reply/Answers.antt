use Rattle.std.proofs.Common.{ℕ, sym, subst}
use Rattle.live_answers.specs.Seen.{Seen, IsTold}
use Rattle.live_session.specs.States.{seen}
use Rattle.live_session.proofs.session.Session.push_reply.Goals as goal

pub push_told-requires-clause-told : goal.push_told-requires-clause-told
push_told-requires-clause-told g c =
    let told = (c.requires.held c.in-Held.told c.in-Held.is).1 in
    subst (λ (v : Seen). IsTold v c.train_of.result c.in-Held.told) (sym c.scene-scene.ensures.scene)
    (subst (λ (i : ℕ). IsTold (seen c.args.self.now) i c.in-Held.told) (sym c.train_of.ensures) told)
