use Rattle.std.proofs.Common.{◌≡◌, ◌++◌, take}
use Rattle.document_generator.proofs.generator.add_times.Given as goal

abbrev pub invariant-loop-steps : goal.invariant-loop-steps
invariant-loop-steps l = l.found.items ≡ l.initial.found.items ++ take l.steps-index l.pair.times
