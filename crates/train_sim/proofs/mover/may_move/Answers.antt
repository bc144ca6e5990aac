use Rattle.rail_model.specs.declared.types.Ask.TheVariants.{Yes}
use Rattle.rail_model.proofs.Asks.{told_once}
use Rattle.train_sim.proofs.mover.may_move.Goals as goal

pub returns-in_default : goal.returns-in_default
returns-in_default c = (
  λ h. absurd cc,
  λ move. absurd (c.in_default.not-Yes (told_once c.args.table.now c.args.state.now c.args.train c.can_move.result Yes c.requires.legal c.can_move.ensures.answer move)),
)
