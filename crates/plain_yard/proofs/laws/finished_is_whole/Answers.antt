use Rattle.plain_yard.proofs.Keeping.{whole_finish}
use Rattle.plain_yard.proofs.Reaching.{round_begun}
use Rattle.plain_yard.proofs.laws.finished_is_whole.Goals as goal

pub returns-clause-whole : goal.returns-clause-whole
returns-clause-whole c = whole_finish

pub returns-clause-round : goal.returns-clause-round
returns-clause-round c = round_begun
