use Rattle.std.proofs.Common.{ap, arith}
use Rattle.document_facts.proofs.Adding.{next, up_to}
use Rattle.document_facts.specs.Adding.{Is}
use Rattle.document_facts.specs.declared.fact.Fact.TheVariants.{SectionLost}
use Rattle.std.specs.Prelude.{length}
use Rattle.document_facts.specs.Former.{HoldsSince}
use Rattle.document_facts.proofs.former.find_gone_in.Goals as goal

pub loop-section-preserved : goal.loop-section-preserved
loop-section-preserved c =
    let D = c.args.doc.now in
    let G = c.args.former.now in
    next (HoldsSince D G) (λ s. Is (HoldsSince D G) (SectionLost c.args.table s)) c.loop-section.section _ _ _ c.loop-section.invariant c.find_gone.ensures

pub returns : goal.returns
returns c =
    let D = c.args.doc.now in
    let G = c.args.former.now in
    let end = c.sections_of-section-end.ensures.count in
    let past = c.loop-section-test.false in
    let near = c.loop-section.auto.section-end in
    let same = ap (λ T. length T.sections) c.table_of.ensures.table in
    up_to (HoldsSince D G) (λ s. Is (HoldsSince D G) (SectionLost c.args.table s)) c.loop-section.section _ _ _ (omega (arith, end, past, near, same)) c.loop-section.invariant
