use Rattle.state_boxes.specs.Extremes.{AreShared}
use Rattle.state_boxes.proofs.levels.shared_sections.Given as goal

abbrev pub invariant-loop-section : goal.invariant-loop-section
invariant-loop-section l = AreShared l.table l.train 0 l.section l.sections.items
