use Rattle.wait_causes.proofs.Kept.{kept}
use Rattle.wait_causes.proofs.laws.a_cause_keeps_the_train.Goals as goal

pub returns : goal.returns
returns c = kept
