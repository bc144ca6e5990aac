use Rattle.std.proofs.Common.{◌∙◌, refl, ap, map, string_bytes}
use Rattle.rail_model.specs.Names.{point_name}
use Rattle.document_json.proofs.OneMore.{seen-more, made-all}
use Rattle.document_json.proofs.members.way.Goals as goal

pub loop-point-preserved : goal.loop-point-preserved
loop-point-preserved c =
    seen-more (point_name c.args.names.now) c.as_slice-point-items.result.now c.loop-point.point-index string_bytes _ _ c.in_ok-from_str.field-0 _ 0 c.loop-point-test.true refl
    (c.in_ok-from_str.ensures.ok ∙ c.point.ensures) c.in_ok-push.ensures.items c.loop-point.invariant

pub returns : goal.returns
returns c =
    made-all (point_name c.args.names.now) c.as_slice-point-items.result.now c.loop-point.point-index _ c.loop-point-test.false c.loop-point.invariant
    ∙ ap (map (point_name c.args.names.now)) c.as_slice-point-items.ensures
