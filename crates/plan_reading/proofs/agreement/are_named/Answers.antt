use Rattle.plan_reading.specs.Agreeing.{is_named}
use Rattle.plan_reading.proofs.agreement.are_named.Goals as goal

pub returns : goal.returns
returns c = c.agree.ensures is_named (λ v x b says. says)
