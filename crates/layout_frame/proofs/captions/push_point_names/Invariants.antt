use Rattle.std.proofs.Common.{◌≡◌, ◌++◌, take}
use Rattle.rail_model.specs.Layout.{point_names}
use Rattle.layout_frame.specs.Spots.{words_of}
use Rattle.layout_frame.proofs.captions.push_point_names.Given as goal

abbrev pub invariant-loop-point : goal.invariant-loop-point
invariant-loop-point l = words_of l.shapes.items ≡ words_of l.initial.shapes.items ++ take l.point (point_names l.view.layout.now)
