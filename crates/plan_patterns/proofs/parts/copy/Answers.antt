use Rattle.plan_patterns.proofs.Members.{cloned_view}
use Rattle.plan_patterns.proofs.parts.copy.Goals as goal

pub returns : goal.returns
returns c = cloned_view _ _ c.in_ok-copy.ensures.cases
