use Rattle.move_claim.proofs.NewNumbers.{all_new}
use Rattle.move_claim.proofs.laws.one_step_writes_only_what_changes.Goals as goal

pub returns : goal.returns
returns c = all_new
