use Rattle.std.proofs.Common.{◌≡◌, ℕ, ◌*◌, ◌<◌, length}
use Rattle.rail_model.specs.Table.{place}
use Rattle.live_yard.specs.PassedPlaces.{IsRow}
use Rattle.live_yard.proofs.passed_places.PassedPlaces.of_lines.Given as goal

abbrev pub invariant-loop-train : goal.invariant-loop-train
invariant-loop-train l = record {
  size : length l.ways.items ≡ l.trains * 128;
  rows : (i : ℕ) → i < l.train → IsRow l.lines (place l.positions i) i l.ways.items;
}
