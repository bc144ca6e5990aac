use Rattle.std.proofs.Common.{◌≡◌, ◌++◌, map}
use Rattle.rail_model.specs.Checks.{below}
use Rattle.layout_picture.specs.Areas.{area_of}
use Rattle.layout_picture.proofs.sections.push_areas.Given as goal

abbrev pub invariant-loop-section : goal.invariant-loop-section
invariant-loop-section l =
    l.shapes.items
    ≡ l.initial.shapes.items
    ++ map (area_of l.view.layout.now l.view.scene.now.table.now l.view.frame.now.spots.items l.view.frame.now.grid.across) (below l.section)
