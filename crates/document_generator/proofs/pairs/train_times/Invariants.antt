use Rattle.std.proofs.Common.{◌≡◌}
use Rattle.document_generator.specs.Draws.{draw}
use Rattle.document_generator.specs.Pairs.{times_from}
use Rattle.document_generator.proofs.pairs.train_times.Given as goal

abbrev pub invariant-loop-step : goal.invariant-loop-step
invariant-loop-step l = record {
  listed : l.times.items ≡ times_from l._step l.fn.draws;
  drawn : l.draws ≡ draw l._step l.fn.draws;
}
