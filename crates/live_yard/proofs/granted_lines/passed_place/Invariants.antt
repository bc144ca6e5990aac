use Rattle.std.proofs.Common.{◌≡◌, ◌+◌, ◌≤◌, drop, length}
use Rattle.live_yard.specs.GrantedLines.{moves_of}
use Rattle.live_yard.proofs.granted_lines.passed_place.Given as goal

abbrev pub invariant-loop-left : goal.invariant-loop-left
invariant-loop-left l = record {
  within : l.left ≤ length l.lines;
  not_before : l.place ≤ l.at;
  later : moves_of l.train (drop l.left l.lines) + l.at ≡ l.now;
}

abbrev pub decreases-loop-left : goal.decreases-loop-left
decreases-loop-left l = l.left
