use Rattle.std.proofs.Common.{◌+◌, ◌<◌, ◌≤◌, take}
use Rattle.cert_tree.specs.Refused.{IsMissing}
use Rattle.cert_maker.proofs.trail.piece_end.Given as goal

abbrev pub invariant-loop-passed : goal.invariant-loop-passed
invariant-loop-passed l = record {
  some : 0 < l.wanted;
  small : l.wanted ≤ l.passed + 1;
  missing : IsMissing (take l.passed l.node-items) l.wanted;
}
