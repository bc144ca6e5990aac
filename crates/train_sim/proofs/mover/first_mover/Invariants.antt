use Rattle.train_sim.specs.Steps.{MovesFirst}
use Rattle.train_sim.proofs.mover.first_mover.Given as goal

abbrev pub invariant-loop-train : goal.invariant-loop-train
invariant-loop-train l = MovesFirst l.table l.state l.due l.train l.first
