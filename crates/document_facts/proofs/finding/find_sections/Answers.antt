use Rattle.std.proofs.Common.{ap, arith}
use Rattle.document_facts.proofs.Adding.{next, up_to}
use Rattle.document_facts.specs.Facts.{Holds}
use Rattle.document_facts.specs.Kinds.{OfSection}
use Rattle.std.specs.Prelude.{length}
use Rattle.document_facts.proofs.finding.find_sections.Goals as goal

pub loop-section-preserved : goal.loop-section-preserved
loop-section-preserved c = next (Holds c.args.doc.now) (OfSection c.args.doc.now c.args.table) c.loop-section.section _ _ _ c.loop-section.invariant c.find_section.ensures

pub returns : goal.returns
returns c =
    let end = c.sections_of-section-end.ensures.count in
    let past = c.loop-section-test.false in
    let near = c.loop-section.auto.section-end in
    let same = ap (λ T. length T.sections) c.table_of.ensures.table in
    up_to (Holds c.args.doc.now) (OfSection c.args.doc.now c.args.table) c.loop-section.section _ _ _ (omega (arith, end, past, near, same)) c.loop-section.invariant
