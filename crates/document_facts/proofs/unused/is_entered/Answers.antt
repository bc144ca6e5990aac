use Rattle.std.proofs.Common.{ap, arith}
use Rattle.std.specs.Prelude.{length}
use Rattle.document_facts.proofs.Tests.{never, none_more, refuted}
use Rattle.document_facts.specs.Used.{IsEntered, IsEnteredAt}
use Rattle.document_facts.proofs.unused.is_entered.Goals as goal

pub loop-point-preserved : goal.loop-point-preserved
loop-point-preserved c =
    let D = c.args.doc.now in
    none_more (IsEnteredAt D c.args.zone) c.loop-point.point c.loop-point.invariant
    (refuted (IsEnteredAt D c.args.zone c.loop-point.point) c.is_entered_at.result c.is_entered_at.ensures c.if-is_entered_at.false)

pub returns : goal.returns
returns c =
    let end = c.points_of-point-end.ensures.count in
    let same = ap (λ L. length L.points) c.layout_of.ensures.layout in
    let past = c.loop-point-test.false in
    never (IsEntered c.args.doc.now c.args.zone) (λ x. c.loop-point.invariant x.0 (let lt = x.1 in omega (arith, lt, end, same, past)) x.2)
