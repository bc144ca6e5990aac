use Rattle.std.proofs.Common.{◌≡◌, ℕ, ◌<◌, length, slice_index}
use Rattle.live_yard.specs.GrantedLines.{WasTried}
use Rattle.live_yard.proofs.table_lines.TableLines.of_run.Given as goal

abbrev pub invariant-loop-table : goal.invariant-loop-table
invariant-loop-table g l = record {
  room : length l.numbers ≡ 17;
  before : (t : ℕ) → 0 < t → t < l.table → WasTried l.run.lines t (slice_index l.numbers t);
}
