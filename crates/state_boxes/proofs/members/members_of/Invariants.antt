use Rattle.std.proofs.Common.{[]}
use Rattle.rail_model.specs.Table.{trains}
use Rattle.state_boxes.specs.Each.{IsEach}
use Rattle.state_boxes.specs.Extremes.{AreMembers}
use Rattle.state_boxes.proofs.members.members_of.Given as goal

abbrev pub invariant-loop-section : goal.invariant-loop-section
invariant-loop-section l = IsEach (λ s row. AreMembers l.table s 0 (trains l.table) row) l.section [] l.sections.items
