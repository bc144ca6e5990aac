use Rattle.zone_yard.proofs.Prelude.{◌≡◌, true, ◌∙◌, sym, ap, subst, arith, is_above, Seat}
use Rattle.zone_yard.proofs.Spans.{above_span}
use Rattle.zone_yard.proofs.Holdings.{waits_more, takes_none}
use Rattle.zone_yard.proofs.zones.wait_for_all.Goals as goal
use Rattle.zone_yard.proofs.zones.wait_for_all.Goals.{then-has, else-has}

pub wait_for-requires-clause-zone : goal.wait_for-requires-clause-zone
wait_for-requires-clause-zone g c = (
  omega (arith, c.loop-zone-test.true, c.zones-zone-end.ensures.count),
  subst (λ l. is_above c.loop-zone.zone l ≡ true) (sym (ap (λ (m : Seat). m.view.actor.held) c.loop-zone.invariant.holds.now)) (above_span c.args.needed.now c.loop-zone.zone 0 c.loop-zone.zone (omega arith)),
)

pub loop-zone-preserved : goal.loop-zone-preserved
loop-zone-preserved g c = elim c.if-has.branch [
  | then-has w ↦ rw w.seat-is record {
    table = w.wait_for.ensures.same.0 ∙ c.loop-zone.invariant.table;
    id = w.wait_for.ensures.same.1 ∙ c.loop-zone.invariant.id;
    holds = waits_more c.args.needed.now c.loop-zone.zone c.args.seat.now.me c.loop-zone.seat.me w.wait_for.new.seat.me c.loop-zone.invariant.holds (sym c.has.ensures ∙ w.if-has.true) w.wait_for.ensures.holds;
  }
  | else-has w ↦ rw w.seat-is record {
    table = c.loop-zone.invariant.table;
    id = c.loop-zone.invariant.id;
    holds = takes_none c.args.needed.now c.loop-zone.zone c.args.seat.now.me c.loop-zone.seat.me c.loop-zone.invariant.holds (sym c.has.ensures ∙ w.if-has.false);
  }
]
