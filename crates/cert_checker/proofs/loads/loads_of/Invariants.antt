use Rattle.std.proofs.Common.{◌≡◌, ◌≤◌, take}
use Rattle.cert_checker.specs.Cut.{parts_of}
use Rattle.cert_checker.proofs.loads.loads_of.Given as goal

abbrev pub invariant-loop-index : goal.invariant-loop-index
invariant-loop-index l = record {
  within : l.begin ≤ l.index;
  dealt : parts_of l.loads.items ≡ take l.begin l.parts;
}
