use Rattle.state_boxes.specs.Extremes.{AreMembers}
use Rattle.state_boxes.proofs.members.section_members.Given as goal

abbrev pub invariant-loop-train : goal.invariant-loop-train
invariant-loop-train l = AreMembers l.table l.section 0 l.train l.members.items
