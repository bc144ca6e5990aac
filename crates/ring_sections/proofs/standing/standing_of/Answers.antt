use Rattle.std.proofs.Common.{◌∙◌, ap, subst, sym}
use Rattle.std.specs.Prelude.{All, filter}
use Rattle.ring_sections.specs.Search.{IsTrainPlace, stands_at, standing_at}
use Rattle.ring_sections.proofs.StepLists.{valid-pairs}
use Rattle.forbidden_states.proofs.Growing.{next_listed}
use Rattle.ring_sections.proofs.standing.standing_of.Goals as goal

pub points_of-requires : goal.points_of-requires
points_of-requires c = subst (All (IsTrainPlace c.args.missions.now)) (sym c.requires.pairs) (valid-pairs c.args.missions.now)

pub standers_at-requires-clause-pairs : goal.standers_at-requires-clause-pairs
standers_at-requires-clause-pairs c = subst (All (IsTrainPlace c.args.missions.now)) (sym c.requires.pairs) (valid-pairs c.args.missions.now)

pub loop-point-preserved : goal.loop-point-preserved
loop-point-preserved c =
    next_listed (standing_at c.args.missions.now) c.loop-point.point c.loop-point.all.items c.push.new.self.items c.in_ok-standers_at.field-0
    c.loop-point.invariant c.in_ok-push.ensures.items
    (c.in_ok-standers_at.ensures ∙ ap (filter (stands_at c.args.missions.now c.loop-point.point)) c.requires.pairs)
