use Rattle.zone_yard.proofs.Prelude.{◌≡◌, ◌-◌, length, AreLines}
use Rattle.zone_yard.specs.Attempts.{Since}
use Rattle.zone_yard.proofs.asking.ask_on.Given as goal

abbrev pub invariant-rounds : goal.invariant-rounds
invariant-rounds g l = record {
  table : l.asker.seat.table_id ≡ l.initial.asker.seat.table_id;
  id : l.asker.seat.id ≡ l.initial.asker.seat.id;
  since : Since l.initial.asker.seat.me l.asker.seat.me;
  lines : AreLines l.asker.seat.me.view l.asker.receipts;
}

-- the tables after the last one that the pass has seen in force
abbrev pub decreases-rounds : goal.decreases-rounds
decreases-rounds g l = length l.initial.asker.seat.me.view.setup.tables - l.asker.seat.me.view.noted
