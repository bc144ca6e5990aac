use Rattle.std.proofs.Common.{◌≡◌, sym, subst, arith}
use Rattle.rail_model.specs.Table.{mission}
use Rattle.document_facts.proofs.Tests.{never, none_more, refuted}
use Rattle.document_facts.specs.Used.{GoAlong, Uses}
use Rattle.document_facts.proofs.unused.uses.Goals as goal

pub loop-train-preserved : goal.loop-train-preserved
loop-train-preserved c =
    let T = c.args.table.now in
    let link = c.args.link in
    let i = c.loop-train.train in
    let same : c.as_slice.result.now ≡ (mission T i).points = cc in
    none_more (λ i. GoAlong (mission T i).points link) i c.loop-train.invariant
    (λ here. refuted (GoAlong c.as_slice.result.now link) c.goes_along.result c.goes_along.ensures c.if-goes_along.false (subst (λ points. GoAlong points link) (sym same) here))

pub returns : goal.returns
returns c =
    let end = c.trains_of-train-end.ensures.count in
    let past = c.loop-train-test.false in
    never (Uses c.args.table.now c.args.link) (λ x. c.loop-train.invariant x.0 (let lt = x.1 in omega (arith, lt, end, past)) x.2)
