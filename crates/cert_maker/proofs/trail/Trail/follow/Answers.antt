use Rattle.std.proofs.Common.{sym, subst}
use Rattle.cert_maker.specs.Draft.{IsOnTrail}
use Rattle.cert_maker.proofs.Pieces.{opened_leaf}
use Rattle.cert_maker.proofs.trail.Trail.follow.Goals as goal

pub returns-in_default : goal.returns-in_default
returns-in_default c = λ T B S on.
    subst (IsOnTrail T c.args.nodes.now c.pass.new.self) (sym (opened_leaf B c.args.node S c.in_default.not-Split)) (c.pass.ensures T B S on)
