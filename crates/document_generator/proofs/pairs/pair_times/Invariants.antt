use Rattle.std.proofs.Common.{◌≡◌, ◌*◌}
use Rattle.document_generator.specs.Draws.{draw}
use Rattle.document_generator.specs.Pairs.{times_of}
use Rattle.document_generator.proofs.pairs.pair_times.Given as goal

abbrev pub invariant-loop-train : goal.invariant-loop-train
invariant-loop-train l = record {
  listed : l.times.items ≡ times_of l._train l.steps l.fn.draws;
  drawn : l.draws ≡ draw (l._train * l.steps) l.fn.draws;
}
