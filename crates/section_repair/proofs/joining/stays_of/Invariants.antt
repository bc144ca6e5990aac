use Rattle.std.proofs.Common.{◌≡◌, take}
use Rattle.section_repair.specs.Joining.{stays_of}
use Rattle.section_repair.proofs.joining.stays_of.Given as goal

abbrev pub invariant-loop-train : goal.invariant-loop-train
invariant-loop-train l = l.stays.items ≡ stays_of l.state (take l.train-index l.group)
