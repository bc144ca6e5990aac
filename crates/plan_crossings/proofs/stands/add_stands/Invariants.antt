use Rattle.std.proofs.Common.{◌≡◌, ℕ, ◌<◌, true}
use Rattle.plan_crossings.specs.Stands.{is_known, stand_at, AreKept}
use Rattle.plan_crossings.proofs.stands.add_stands.Given as goal

abbrev pub invariant-loop-place : goal.invariant-loop-place
invariant-loop-place l = record {
  added : (k : ℕ) → k < l.place → is_known l.stands.items (stand_at l.crossing l.route k) ≡ true;
  kept : AreKept l.initial.stands.items l.stands.items;
}
