use Rattle.std.proofs.Common.{◌≡◌, ◌++◌, flat_map}
use Rattle.rail_model.specs.Checks.{below}
use Rattle.layout_picture.specs.Areas.{stripes_over}
use Rattle.layout_picture.proofs.sections.push_stripes.Given as goal

abbrev pub invariant-loop-section : goal.invariant-loop-section
invariant-loop-section l =
    l.shapes.items
    ≡ l.initial.shapes.items
    ++ flat_map (stripes_over l.view.layout.now l.view.scene.now.table.now l.view.frame.now.spots.items l.view.frame.now.grid.across) (below l.section)
