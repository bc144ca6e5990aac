use Rattle.std.proofs.Common.{◌≡◌}
use Rattle.live_answers.specs.Causes.{chosen, counting}
use Rattle.live_answers.proofs.causes.counted.Given as goal

abbrev pub invariant-loop-train : goal.invariant-loop-train
invariant-loop-train l = l.by.items ≡ chosen (counting l.scene l.section l.still) l.train
