use Rattle.std.proofs.Common.{◌≡◌, ℕ, ◌+◌, ◌*◌, ◌<◌, ◌≤◌, get_or}
use Rattle.live_yard.specs.PassedPlaces.{KeepsOtherRows}
use Rattle.live_yard.specs.declared.granted_lines.Passed.TheVariants.{Begun}
use Rattle.live_yard.proofs.passed_places.begin_row.Given as goal

abbrev pub invariant-loop-place : goal.invariant-loop-place
invariant-loop-place l = record {
  begun : (k : ℕ) → k < l.place → get_or l.ways (l.train * 128 + k) (Begun 0) ≡ Begun l.start;
  later : (k : ℕ) → l.place ≤ k → k < 128
      → get_or l.ways (l.train * 128 + k) (Begun 0) ≡ get_or l.fn.ways (l.train * 128 + k) (Begun 0);
  others : KeepsOtherRows l.fn.ways l.train l.ways;
}
