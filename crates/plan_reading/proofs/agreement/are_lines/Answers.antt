use Rattle.plan_reading.specs.Said.{is_line}
use Rattle.plan_reading.proofs.agreement.are_lines.Goals as goal

pub returns : goal.returns
returns c = c.agree.ensures is_line (λ v x b says. says)
