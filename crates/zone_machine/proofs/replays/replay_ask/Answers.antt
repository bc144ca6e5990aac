use Rattle.zone_machine.proofs.Prelude.{arith, subst, IsTable}
use Rattle.table_exchange.proofs.Standings.{few_places}
use Rattle.zone_machine.proofs.replays.replay_ask.Goals as goal

pub advance-requires-clause-moves : goal.advance-requires-clause-moves
advance-requires-clause-moves g c =
    let table = subst IsTable c.in_force-table.ensures.given c.in_force-table.ensures.formed in
    omega (arith, c.requires.stands.moves, few_places _ c.args.yard.now.positions table c.requires.stands.legal)
