use Rattle.std.proofs.Common.{◌≡◌, ◌++◌, map, take}
use Rattle.layout_picture.specs.Marks.{dot_at}
use Rattle.layout_picture.proofs.tracks.push_dots.Given as goal

abbrev pub invariant-loop-at : goal.invariant-loop-at
invariant-loop-at l = l.shapes.items ≡ l.initial.shapes.items ++ map dot_at (take l.at-index l.spots)
