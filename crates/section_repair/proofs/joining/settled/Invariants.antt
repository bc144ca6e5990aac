use Rattle.std.proofs.Common.{◌≡◌, length}
use Rattle.section_repair.specs.Joining.{settled}
use Rattle.section_repair.proofs.joining.settled.Given as goal

abbrev pub invariant-loop-index : goal.invariant-loop-index
invariant-loop-index l = settled l.sections.items l.last ≡ settled l.fn.others.items l.fn.last

abbrev pub decreases-loop-index : goal.decreases-loop-index
decreases-loop-index l = length l.sections.items
