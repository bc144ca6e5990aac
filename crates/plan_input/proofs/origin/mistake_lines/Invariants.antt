use Rattle.std.proofs.Common.{◌≡◌, flat_map, string_bytes, take}
use Rattle.plan_input.specs.Origin.{mistake_words}
use Rattle.plan_input.proofs.origin.mistake_lines.Given as goal

abbrev pub invariant-loop-fault : goal.invariant-loop-fault
invariant-loop-fault l = string_bytes l.lines ≡ flat_map (mistake_words l.name) (take l.fault-index l.faults)
