use Rattle.document_shapes.specs.Seen.{names_seen}
use Rattle.document_json.specs.Members.{way_names}
use Rattle.document_json.proofs.OneMore.{seen-more, made-all}
use Rattle.document_json.proofs.members.ways.Goals as goal

pub loop-mission-preserved : goal.loop-mission-preserved
loop-mission-preserved c =
    seen-more (way_names c.args.names.now) c.args.missions.now c.loop-mission.mission-index names_seen _ _ c.in_ok-way.field-0 c.mission-item.result _ c.loop-mission-test.true c.mission-item.is
    c.in_ok-way.ensures c.in_ok-push.ensures.items c.loop-mission.invariant

pub returns : goal.returns
returns c = made-all (way_names c.args.names.now) c.args.missions.now c.loop-mission.mission-index _ c.loop-mission-test.false c.loop-mission.invariant
