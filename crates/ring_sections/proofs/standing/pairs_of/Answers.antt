use Rattle.std.proofs.Common.{ap}
use Rattle.rail_model.specs.Table.{Mission, mission}
use Rattle.forbidden_states.specs.Forbid.{unmarked}
use Rattle.ring_sections.specs.Ring.{train_pairs}
use Rattle.forbidden_states.proofs.Growing.{next_flat}
use Rattle.ring_sections.proofs.standing.pairs_of.Goals as goal

pub loop-train-preserved : goal.loop-train-preserved
loop-train-preserved c =
    next_flat (λ i. train_pairs i (mission (unmarked c.args.missions.now) i)) c.loop-train.train c.loop-train.pairs.items c.add_pairs.new.pairs.items
    (train_pairs c.loop-train.train c.mission.result.now) c.loop-train.invariant c.in_ok-add_pairs.ensures
    (ap (λ (m : Mission). train_pairs c.loop-train.train m) c.mission.ensures)
