use Rattle.std.proofs.Common.{Bor, List, ℕ}
use Rattle.std.proofs.Math.ListN.{get_or-map}
use Rattle.plan_reading.proofs.Numbered.{number_at}
use Rattle.plan_reading.proofs.zoned.number_of.Goals as goal

pub returns : goal.returns
returns c = rw (← get_or-map (λ (t : Bor (List ℕ)). t.now)) (number_at c.args.zone c.requires)
