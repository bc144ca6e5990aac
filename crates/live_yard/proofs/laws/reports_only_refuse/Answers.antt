use Rattle.live_yard.proofs.Plainly.{plainly}
use Rattle.live_yard.proofs.laws.reports_only_refuse.Goals as goal

pub returns : goal.returns
returns c = plainly
