use Rattle.std.proofs.Common.{◌≡◌, take}
use Rattle.wait_causes.specs.Before as spec
use Rattle.wait_causes.proofs.before.table_before.Given as goal

abbrev pub invariant-loop-takeover : goal.invariant-loop-takeover
invariant-loop-takeover l = l.table ≡ spec.table_before (take l.takeover-index l.takeovers) l.tick
