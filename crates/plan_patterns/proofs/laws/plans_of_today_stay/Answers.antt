use Rattle.plan_patterns.proofs.Plain.{stays}
use Rattle.plan_patterns.proofs.laws.plans_of_today_stay.Goals as goal

pub returns : goal.returns
returns c = stays
