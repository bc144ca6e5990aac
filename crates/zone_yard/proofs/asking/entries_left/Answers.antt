use Rattle.zone_yard.proofs.Prelude.{subst}
use Rattle.zone_yard.specs.Passes.{IsFree}
use Rattle.zone_yard.proofs.asking.entries_left.Goals as goal

pub returns-clause-free : goal.returns-clause-free
returns-clause-free c = subst IsFree c.driver.view_is (c.driver.invariant.0.pass.idle.held, c.driver.invariant.0.pass.idle.owed)
