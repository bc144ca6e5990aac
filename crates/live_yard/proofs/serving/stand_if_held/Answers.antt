use Rattle.live_yard.proofs.Wanting.{held_stands}
use Rattle.live_yard.proofs.serving.stand_if_held.Goals as goal

pub returns-in_default-clause-wants : goal.returns-in_default-clause-wants
returns-in_default-clause-wants c =
    held_stands c.args.told _ _ c.args.train c.in_default.not-May c.in_default.not-Arrived c.stand_last.ensures.wants
