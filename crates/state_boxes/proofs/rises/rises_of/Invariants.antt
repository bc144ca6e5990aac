use Rattle.std.proofs.Common.{[]}
use Rattle.state_boxes.specs.Each.{IsEach}
use Rattle.state_boxes.specs.Sums.{AreSteps}
use Rattle.state_boxes.proofs.rises.rises_of.Given as goal

abbrev pub invariant-loop-train : goal.invariant-loop-train
invariant-loop-train l = IsEach (AreSteps l.table) l.train [] l.all.items
