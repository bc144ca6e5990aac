use Rattle.std.proofs.Common.{ap, arith}
use Rattle.rail_model.specs.Certificate.{Range}
use Rattle.state_boxes.proofs.From.{more_from}
use Rattle.state_boxes.proofs.ways.first_block.Goals as goal

pub loop-place-preserved : goal.loop-place-preserved
loop-place-preserved c = more_from _ _ _ c.loop-place.invariant c.in_default.ensures

pub returns-in_default : goal.returns-in_default
returns-in_default c =
    let end = ap (λ (r : Range). r.hi) c.span-span.ensures in
    λ j h. more_from _ _ _ c.loop-place.invariant c.in_default.ensures h.2.0 h.2.3.0 (omega (arith, h.2.3, end)) j (h.0, h.1, (h.2.1, h.2.2, h.2.4, h.2.5, h.2.6))
