use Rattle.plan_reading.proofs.held.+held.Given as goal

abbrev pub decreases-held : goal.decreases-held
decreases-held l = l.places
