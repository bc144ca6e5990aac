use Rattle.zone_yard.proofs.Prelude.{◌≡◌, HoldsZones}
use Rattle.zone_yard.proofs.zones.wait_for.Given as goal

abbrev pub invariant-loop : goal.invariant-loop
invariant-loop g l = record {
  table : l.seat.table_id ≡ l.initial.seat.table_id;
  id : l.seat.id ≡ l.initial.seat.id;
  holds : HoldsZones l.initial.seat.me l.seat.me l.initial.seat.me.view.actor.held;
}
