use Rattle.layout_frame.specs.Legend.{Extends}
use Rattle.layout_frame.specs.Spots.{words_of}
use Rattle.layout_frame.proofs.legend.push_trains.Given as goal

abbrev pub invariant-loop-train : goal.invariant-loop-train
invariant-loop-train l = Extends (words_of l.initial.shapes.items) (words_of l.shapes.items)
