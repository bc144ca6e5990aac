use Rattle.plan_crossings.specs.Answer.{AreSoundBelow}
use Rattle.plan_crossings.proofs.making.check.Given as goal

abbrev pub invariant-loop-index : goal.invariant-loop-index
invariant-loop-index l = AreSoundBelow l.crossings l.routes l.index
