use Rattle.std.proofs.Common.{refl}
use Rattle.table_exchange.proofs.Standings.{admits_same}
use Rattle.live_answers.proofs.fitting.admit_next.Goals as goal

pub returns : goal.returns
returns g c = admits_same c.args.table.now c.args.table.now _ _ _ _ _ refl c.table.ensures.given c.positions.ensures
    c.admit.ensures
