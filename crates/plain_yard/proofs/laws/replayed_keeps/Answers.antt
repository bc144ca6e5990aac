use Rattle.plain_yard.proofs.Keeping.{keeps_replayed}
use Rattle.plain_yard.proofs.laws.replayed_keeps.Goals as goal

pub returns : goal.returns
returns c = keeps_replayed
