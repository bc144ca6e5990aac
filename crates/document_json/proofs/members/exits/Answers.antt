use Rattle.rail_model.specs.Table.{Mission}
use Rattle.document_json.proofs.OneMore.{made-more, made-all}
use Rattle.document_json.proofs.members.exits.Goals as goal

pub loop-mission-preserved : goal.loop-mission-preserved
loop-mission-preserved c =
    made-more (λ (m : Mission). m.exits) c.args.missions.now c.loop-mission.mission-index _ _ c.exits.result c.mission-item.result _ c.loop-mission-test.true c.mission-item.is
    c.exits.ensures c.in_ok-push.ensures.items c.loop-mission.invariant

pub returns : goal.returns
returns c = made-all (λ (m : Mission). m.exits) c.args.missions.now c.loop-mission.mission-index _ c.loop-mission-test.false c.loop-mission.invariant
