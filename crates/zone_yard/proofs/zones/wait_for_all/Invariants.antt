use Rattle.zone_yard.proofs.Prelude.{◌≡◌, span, HoldsZones}
use Rattle.zone_yard.proofs.zones.wait_for_all.Given as goal

abbrev pub invariant-loop-zone : goal.invariant-loop-zone
invariant-loop-zone g l = record {
  table : l.seat.table_id ≡ l.initial.seat.table_id;
  id : l.seat.id ≡ l.initial.seat.id;
  holds : HoldsZones l.initial.seat.me l.seat.me (span l.needed 0 l.zone);
}
