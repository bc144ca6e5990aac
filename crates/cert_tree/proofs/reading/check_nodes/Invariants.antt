use Rattle.std.proofs.Common.{◌+◌, ◌≤◌, take}
use Rattle.cert_tree.specs.Refused.{IsMissing}
use Rattle.cert_tree.proofs.reading.check_nodes.Given as goal

abbrev pub invariant-loop-used : goal.invariant-loop-used
invariant-loop-used l = record {
  small : l.wanted ≤ l.used + 1;
  missing : IsMissing (take l.used l.nodes) l.wanted;
}
