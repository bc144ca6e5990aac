use Rattle.std.proofs.Common.{◌<◌}
use Rattle.run_sentences.proofs.apart.other_over.Given as goal

abbrev pub invariant-loop-second : goal.invariant-loop-second
invariant-loop-second l = l.first < l.second
