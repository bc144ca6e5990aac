use Rattle.std.proofs.Common.{◌∙◌, ap}
use Rattle.rail_model.specs.Table.{Mission, mission}
use Rattle.forbidden_states.specs.Forbid.{unmarked, stay_of, changes_of}
use Rattle.forbidden_states.proofs.Growing.{next_listed}
use Rattle.forbidden_states.proofs.marking.all_changes.Goals as goal

pub loop-train-preserved : goal.loop-train-preserved
loop-train-preserved c =
    next_listed (λ i. changes_of (mission (unmarked c.args.missions.now) i) (stay_of c.args.stays.now i)) c.loop-train.train
    c.loop-train.changes.items c.push.new.self.items c.in_ok-changes_of.field-0
    c.loop-train.invariant c.in_ok-push.ensures.items
    (c.in_ok-changes_of.ensures
    ∙ ap (λ (m : Mission). changes_of m c.stay_of-stay.result) c.mission.ensures
    ∙ ap (λ stay. changes_of (mission (unmarked c.args.missions.now) c.loop-train.train) stay) c.stay_of-stay.ensures)
