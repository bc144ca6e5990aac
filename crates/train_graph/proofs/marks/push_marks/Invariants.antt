use Rattle.std.proofs.Common.{◌≡◌, ◌++◌, map, take}
use Rattle.train_graph.specs.Marks.{mark_of}
use Rattle.train_graph.specs.Subject.{subject_of}
use Rattle.train_graph.proofs.marks.push_marks.Given as goal

abbrev pub invariant-loop-step : goal.invariant-loop-step
invariant-loop-step l = l.shapes.items ≡ l.initial.shapes.items ++ map (mark_of (subject_of l.sheet)) (take l.step-index l.steps)
