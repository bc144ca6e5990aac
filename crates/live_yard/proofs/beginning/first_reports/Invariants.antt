use Rattle.std.proofs.Common.{◌≡◌, ℕ, ◌<◌, ◌≤◌, length}
use Rattle.rail_model.specs.Table.{place}
use Rattle.live_yard.specs.Reported.{IsFirstReport}
use Rattle.live_yard.proofs.beginning.first_reports.Given as goal

abbrev pub invariant-loop-train : goal.invariant-loop-train
invariant-loop-train l = record {
  one_each : length l.there ≡ length l.positions;
  behind : (k : ℕ) → place l.there k ≤ place l.positions k;
  first : (k : ℕ) → k < l.train → IsFirstReport l.lines k (place l.positions k) (place l.there k);
}
