use Rattle.rail_model.proofs.Live.{completes}
use Rattle.live_yard.specs.Reported.{positions_of, table_of}
use Rattle.live_yard.proofs.Following.{stands_of}
use Rattle.live_yard.proofs.laws.trains_can_arrive.Goals as goal

pub returns : goal.returns
returns c = λ v is live. completes (table_of v) (positions_of v) live (stands_of v is).legal
