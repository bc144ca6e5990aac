use Rattle.std.proofs.Common.{ap, subst, ◌∙◌, List, length}
use Rattle.rail_model.specs.Journal.{IsDone}
use Rattle.rail_model.specs.Table.{trains}
use Rattle.rail_model.specs.Yard.{Offer}
use Rattle.train_sim.proofs.Bounded.{is_soon}
use Rattle.train_sim.proofs.Leading.{one_tick_each, reports}
use Rattle.train_sim.proofs.report.simulate.Goals as goal

pub returns-clause-simulates : goal.returns-clause-simulates
returns-clause-simulates g c =
    let run = c.args.run in
    let new = c.play.new.run in
    reports run.tables c.args.times.now run.yard new.yard c.in-Ok.watch c.play.new.watch run.lines new.lines c.trains_of-trains.result (length c.lines.result.now) c.into_parts-ticks.result.0.items
    c.into_parts-ticks.result.1 c.into_state.result c.in-Ok.ensures (c.trains_of-trains.ensures.count ∙ ap trains c.live_in_force.ensures.given) (ap length c.lines.ensures)
    (subst (λ (ts : List Offer). IsDone ts new.yard) c.play.ensures.tables c.play.ensures.done) c.play.ensures.leads c.into_parts-ticks.ensures.ticks c.into_parts-ticks.ensures.last c.into_state.ensures.state

pub returns-clause-soon : goal.returns-clause-soon
returns-clause-soon g c =
    is_soon _ _ _ _ _ _ _ _ c.live_in_force.ensures.tables c.requires c.live_in_force.ensures.stands (returns-clause-simulates g c)

pub returns-clause-one_each : goal.returns-clause-one_each
returns-clause-one_each g c = one_tick_each _ _ _ _ _ _ _ _ (returns-clause-simulates g c)
