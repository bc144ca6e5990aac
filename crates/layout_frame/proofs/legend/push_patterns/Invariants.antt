use Rattle.layout_frame.specs.Legend.{Extends}
use Rattle.layout_frame.specs.Spots.{words_of}
use Rattle.layout_frame.proofs.legend.push_patterns.Given as goal

abbrev pub invariant-loop-section : goal.invariant-loop-section
invariant-loop-section l = Extends (words_of l.initial.shapes.items) (words_of l.shapes.items)
