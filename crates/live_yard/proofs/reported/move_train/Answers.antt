use Rattle.rail_model.proofs.Asks.{told_once}
use Rattle.rail_model.specs.declared.types.Ask.TheVariants.{Yes}
use Rattle.live_yard.proofs.reported.move_train.Goals as goal

pub unreachable-requires : goal.unreachable-requires
unreachable-requires g c =
    c.in_default.not-Yes (told_once _ _ c.args.train c.ask.result Yes c.requires.before c.ask.ensures.answer c.requires)
