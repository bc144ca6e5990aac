use Rattle.std.proofs.Common.{◌≡◌, ◌++◌, flat_map}
use Rattle.rail_model.specs.Checks.{below}
use Rattle.train_graph.specs.Marks.{levels_of}
use Rattle.train_graph.specs.Subject.{subject_of}
use Rattle.train_graph.proofs.levels.push_levels.Given as goal

abbrev pub invariant-loop-train : goal.invariant-loop-train
invariant-loop-train l = l.shapes.items ≡ l.initial.shapes.items ++ flat_map (levels_of (subject_of l.sheet) l.stay) (below l.train)
