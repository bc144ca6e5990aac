use Rattle.std.proofs.Common.{◌≡◌, ◌≤◌, length, map, vec_capacity}
use Rattle.rail_model.specs.Checks.{below}
use Rattle.forbidden_states.specs.Forbid.{change_at}
use Rattle.forbidden_states.proofs.marking.changes_of.Given as goal

abbrev pub invariant-loop-place : goal.invariant-loop-place
invariant-loop-place l = record {
  room : l.places ≤ vec_capacity l.changes;
  many : length l.changes.items ≡ l.place;
  listed : l.changes.items ≡ map (change_at l.stay) (below l.place);
}
