use Rattle.std.proofs.Common.{take}
use Rattle.std.specs.List.{AllZip}
use Rattle.layout_picture.specs.Drawn.{IsLayer, layers, subject_of}
use Rattle.layout_picture.proofs.picture.groups_of.Given as goal

abbrev pub invariant-loop-layer : goal.invariant-loop-layer
invariant-loop-layer l = AllZip (IsLayer (subject_of l.view)) (take l.layer-index layers) l.groups.items
