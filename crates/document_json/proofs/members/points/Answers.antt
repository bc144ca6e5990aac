use Rattle.std.proofs.Common.{◌∙◌, ap₂, ℕ}
use Rattle.document_json.specs.Written.{point_pair, point_seen}
use Rattle.document_json.proofs.OneMore.{seen-more, made-all}
use Rattle.document_json.proofs.members.points.Goals as goal

pub loop-point-preserved : goal.loop-point-preserved
loop-point-preserved c =
    seen-more point_pair c.args.points.now c.loop-point.point-index point_seen _ _ (c.in_ok-name.name, c.zone.result) c.point-item.result _ c.loop-point-test.true c.point-item.is
    (ap₂ (λ name (zone : ℕ). (name, zone)) (c.in_ok-name.ensures.ok ∙ c.name.ensures) c.zone.ensures) c.in_ok-push.ensures.items c.loop-point.invariant

pub returns : goal.returns
returns c = made-all point_pair c.args.points.now c.loop-point.point-index _ c.loop-point-test.false c.loop-point.invariant
