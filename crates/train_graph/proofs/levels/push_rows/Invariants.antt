use Rattle.std.proofs.Common.{◌≡◌, ◌++◌, flat_map, take}
use Rattle.train_graph.specs.Marks.{level_of}
use Rattle.train_graph.specs.Subject.{subject_of}
use Rattle.train_graph.proofs.levels.push_rows.Given as goal

abbrev pub invariant-loop-row : goal.invariant-loop-row
invariant-loop-row l = l.shapes.items ≡ l.initial.shapes.items ++ flat_map (level_of (subject_of l.sheet) l.stay) (take l.row-index l.rows)
