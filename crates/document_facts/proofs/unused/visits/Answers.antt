use Rattle.std.proofs.Common.{◌≡◌, sym, subst, arith}
use Rattle.std.specs.Prelude.{Contains}
use Rattle.rail_model.specs.Table.{mission}
use Rattle.document_facts.proofs.Tests.{never, none_more, refuted}
use Rattle.document_facts.specs.Used.{Visits}
use Rattle.document_facts.proofs.unused.visits.Goals as goal

pub loop-train-preserved : goal.loop-train-preserved
loop-train-preserved c =
    let T = c.args.table.now in
    let q = c.args.point in
    let i = c.loop-train.train in
    let same : c.mission.result.now ≡ mission T i = cc in
    none_more (λ i. Contains (mission T i).points q) i c.loop-train.invariant
    (λ here. refuted (Contains c.mission.result.now.points q) c.comes_to.result c.comes_to.ensures c.if-comes_to.false (subst (λ m. Contains m.points q) (sym same) here))

pub returns : goal.returns
returns c =
    let end = c.trains_of-train-end.ensures.count in
    let past = c.loop-train-test.false in
    never (Visits c.args.table.now c.args.point) (λ x. c.loop-train.invariant x.0 (let lt = x.1 in omega (arith, lt, end, past)) x.2)
