use Rattle.std.proofs.Common.{take}
use Rattle.std.specs.List.{AllZip}
use Rattle.train_graph.specs.Layers.{IsLayer, layers}
use Rattle.train_graph.specs.Subject.{subject_of}
use Rattle.train_graph.proofs.drawing.groups_of.Given as goal

abbrev pub invariant-loop-layer : goal.invariant-loop-layer
invariant-loop-layer l = AllZip (IsLayer (subject_of l.sheet)) (take l.layer-index layers) l.groups.items
