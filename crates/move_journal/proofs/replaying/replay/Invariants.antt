use Rattle.std.proofs.Common.{◌≡◌, map, take}
use Rattle.rail_model.specs.Yard.{opening}
use Rattle.rail_model.specs.Journal.{IsRight, after_lines}
use Rattle.table_exchange.specs.Tables.{Stands}
use Rattle.move_journal.proofs.replaying.replay.Given as goal

abbrev pub invariant-loop-index : goal.invariant-loop-index
invariant-loop-index g l = record {
  stands : Stands (map g.A.HasTable.offer l.tables) l.yard;
  right : IsRight (map g.A.HasTable.offer l.tables) (opening l.start) (take l.index l.all);
  reached : l.yard ≡ after_lines (opening l.start) (take l.index l.all);
}
