use Rattle.std.proofs.Common.{ap, ◌∙◌}
use Rattle.rail_model.specs.Yard.{Yard}
use Rattle.train_sim.proofs.Sooner.{moves_next_at}
use Rattle.train_sim.proofs.playing.next_mover.Goals as goal

pub returns-clause-next : goal.returns-clause-next
returns-clause-next g c =
    moves_next_at _ _ _ _ _ _ c.first_mover.result c.live_in_force.ensures.given (c.positions.ensures ∙ ap (λ (y : Yard). y.positions) c.yard.ensures.yard) c.due.ensures
    c.first_mover.ensures
