use Rattle.run_orders.proofs.Fronts.{stays_legal}
use Rattle.run_orders.proofs.laws.whole_runs_stay_legal.Goals as goal

pub returns : goal.returns
returns c = stays_legal
