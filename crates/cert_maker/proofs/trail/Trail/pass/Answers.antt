use Rattle.std.proofs.Common.{sym, subst}
use Rattle.cert_maker.specs.Draft.{IsOnTrail, Trail}
use Rattle.cert_maker.proofs.trail.Trail.pass.Goals as goal

pub returns : goal.returns
returns c = λ T B S on.
    subst (λ (t : Trail). IsOnTrail T c.args.nodes.now t S) (sym c.leave.ensures) (c.behind_next-end.ensures T B S on)
