use Rattle.std.proofs.Common.{subst}
use Rattle.train_sim.specs.Steps.{MovesFirst}
use Rattle.train_sim.proofs.Sooner.{first_sooner}
use Rattle.train_sim.proofs.mover.sooner.Goals as goal

pub returns-in-Some : goal.returns-in-Some
returns-in-Some c =
    first_sooner c.args.table.now c.args.state.now c.args.due.now c.args.train c.in-Some.other c.if-due-other.true
    (subst (MovesFirst c.args.table.now c.args.state.now c.args.due.now c.args.train) c.in-Some.is c.requires.before)
