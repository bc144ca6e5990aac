use Rattle.std.proofs.Common.{arith}
use Rattle.document_facts.proofs.Tests.{none_more, refuted}
use Rattle.document_facts.specs.Sections.{EndTogether}
use Rattle.document_facts.proofs.trains.first_partner.Goals as goal

pub loop-first-preserved : goal.loop-first-preserved
loop-first-preserved c =
    let T = c.args.table.now in
    let i = c.args.train in
    none_more (λ j. EndTogether T j i) c.loop-first.first c.loop-first.invariant
    (refuted (EndTogether T c.loop-first.first i) c.end_together.result c.end_together.ensures c.if-end_together.false)

pub returns : goal.returns
returns c = λ j lt. c.loop-first.invariant j (let past = c.loop-first-test.false in omega (arith, lt, past))
