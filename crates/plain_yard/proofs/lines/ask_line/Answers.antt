use Rattle.std.proofs.Common.{◌≡◌, ◌+◌, map, arith, ap}
use Rattle.rail_model.specs.Yard.{Yard}
use Rattle.plain_yard.proofs.Keeping.{few_moves}
use Rattle.plain_yard.proofs.lines.ask_line.Goals as goal

pub push_line-requires : goal.push_line-requires
push_line-requires g c =
    let tables = map g.A.HasTable.offer c.args.tables.now in
    let few = few_moves tables c.ask.new.yard c.ask.ensures.stands c.ask.ensures.formed in
    let moves : c.ask.new.yard.moves ≡ c.args.yard.now.moves + 1 = ap (λ (y : Yard). y.moves) c.in-Yes.ensures.after in
    omega (arith, few, moves, c.requires.ready.counted, c.requires.ready.are.few, c.requires.ready.room, c.requires.ready.stands.tried)
