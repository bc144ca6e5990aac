use Rattle.std.proofs.Common.{take}
use Rattle.layout_picture.specs.Drawn.{AddsShapes, AreLinkLines}
use Rattle.layout_picture.proofs.tracks.push_links.Given as goal

abbrev pub invariant-loop-link : goal.invariant-loop-link
invariant-loop-link l = AddsShapes (AreLinkLines l.view.frame.now.spots.items (take l.link-index l.links)) l.initial.shapes.items l.shapes.items
