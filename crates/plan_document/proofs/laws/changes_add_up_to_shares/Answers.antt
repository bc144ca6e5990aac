use Rattle.plan_document.proofs.Sums.{total-changes}
use Rattle.plan_document.proofs.laws.changes_add_up_to_shares.Goals as goal

pub returns : goal.returns
returns c = total-changes
