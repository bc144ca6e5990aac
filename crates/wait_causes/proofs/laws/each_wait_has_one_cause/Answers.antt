use Rattle.wait_causes.proofs.OneCause.{one_cause}
use Rattle.wait_causes.proofs.laws.each_wait_has_one_cause.Goals as goal

pub returns : goal.returns
returns c = one_cause
