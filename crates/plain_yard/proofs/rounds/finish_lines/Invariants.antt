use Rattle.std.proofs.Common.{◌≡◌, ◌-◌, map, vec_capacity}
use Rattle.rail_model.specs.Move.{Live}
use Rattle.rail_model.specs.Table.{trains}
use Rattle.rail_model.specs.Yard.{offer, in_force}
use Rattle.plain_yard.specs.Lines.{IsReady}
use Rattle.plain_yard.proofs.Turns.{Turn, left}
use Rattle.plain_yard.proofs.rounds.finish_lines.Given as goal

abbrev pub invariant-loop-asked : goal.invariant-loop-asked
invariant-loop-asked g l =
    let tables = map g.A.HasTable.offer l.tables in
    record {
      ready : IsReady tables l.yard l.lines.items (vec_capacity l.lines);
      room : vec_capacity l.lines ≡ vec_capacity l.fn.lines;
      live : Live (in_force tables l.yard);
      size : l.trains ≡ trains (in_force tables l.yard);
      turn : Turn tables l.fn.yard (trains (offer tables 0).table - 1) l.fn.lines.items l.yard l.before l.asked l.lines.items;
    }

abbrev pub decreases-loop-asked : goal.decreases-loop-asked
decreases-loop-asked g l = left (map g.A.HasTable.offer l.tables) l.yard l.asked
