use Rattle.plain_yard.proofs.Keeping.{keeps_begun}
use Rattle.plain_yard.proofs.laws.begun_keeps.Goals as goal

pub returns : goal.returns
returns c = keeps_begun
