use Rattle.rail_model.proofs.Sound.{live}
use Rattle.cert_checker.proofs.accepted.accept.Goals as goal

pub invariant_of-result : goal.invariant_of-result
invariant_of-result c = (c.in-Ok.ensures.formed, live _ c.args.cert.now c.in-Ok.ensures.accepted)
