use Rattle.std.proofs.Common.{◌≡◌, ◌++◌, flat_map, take}
use Rattle.wait_causes.specs.Waits.{departures_at}
use Rattle.wait_causes.proofs.departures.push_departures.Given as goal

abbrev pub invariant-loop-row : goal.invariant-loop-row
invariant-loop-row l = l.out.items ≡ l.initial.out.items ++ flat_map departures_at (take l.row-index l.rows)
