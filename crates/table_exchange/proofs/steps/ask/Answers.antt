use Rattle.std.proofs.Common.{map, arith, sym, subst}
use Rattle.rail_model.specs.declared.types.Ask.TheVariants.{Yes}
use Rattle.rail_model.specs.Table.{IsTable}
use Rattle.rail_model.specs.Move.{Answers}
use Rattle.table_exchange.specs.Tables.{Stands}
use Rattle.table_exchange.proofs.Standings.{few_places, stands_moved}
use Rattle.table_exchange.proofs.steps.ask.Goals as goal

pub advance-requires-clause-moves : goal.advance-requires-clause-moves
advance-requires-clause-moves g c =
    let table = subst IsTable c.in_force-table.ensures.given c.in_force-table.ensures.formed in
    omega (arith, c.requires.stands.moves, few_places _ c.args.yard.now.positions table c.requires.stands.legal)

pub returns-in-Yes-clause-stands : goal.returns-in-Yes-clause-stands
returns-in-Yes-clause-stands g c =
    let tables = map g.A.HasTable.offer c.args.tables.now in
    let at = subst (λ p. Answers c.in_force-table.result.now p c.args.train Yes) c.positions.ensures c.in-Yes.ensures.answer in
    let move = subst (λ T. Answers T c.args.yard.now.positions c.args.train Yes) c.in_force-table.ensures.given at in
    subst (Stands tables) (sym c.advance.ensures) (stands_moved tables c.args.yard.now c.args.train c.requires.stands move)
