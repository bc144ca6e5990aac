use Rattle.std.proofs.Common.{◌≡◌, ◌++◌, ◌∷◌, [], flat_map}
use Rattle.rail_model.specs.Checks.{below}
use Rattle.layout_frame.specs.Legend.{entry_words}
use Rattle.layout_frame.specs.Spots.{words_of}
use Rattle.layout_frame.proofs.legend.push_areas.Given as goal

abbrev pub invariant-loop-section : goal.invariant-loop-section
invariant-loop-section l =
    words_of l.shapes.items
    ≡ words_of l.initial.shapes.items ++ flat_map (λ s. [] ∷ entry_words l.view.sections.now l.view.scene.now.table.now s ∷ []) (below l.section)
