use Rattle.std.proofs.Common.{refl}
use Rattle.document_facts.proofs.Adding.{fewer, lost, one}
use Rattle.document_facts.proofs.Tests.{always}
use Rattle.document_facts.specs.Adding.{Is}
use Rattle.document_lint.proofs.Bytes.{former_so, refused_as, so_former}
use Rattle.document_lint.specs.Told.{HoldsAfter}
use Rattle.document_facts.specs.declared.fact.Fact.TheVariants.{FormerRefused}
use Rattle.document_lint.proofs.reading.find_former_refused.Goals as goal

pub returns-in-Memory : goal.returns-in-Memory
returns-in-Memory c =
    let H = HoldsAfter c.args.bytes.now c.args.former.now in
    lost H H _ _ c.note_no_memory.ensures.facts c.note_no_memory.ensures.lost

pub returns-in_default : goal.returns-in_default
returns-in_default c =
    let bytes = c.args.bytes.now in
    let former = c.args.former.now in
    let H = HoldsAfter bytes former in
    let e = c.args.refused.now in
    let is = refused_as former e c.requires c.in_default.not-Memory in
    let so = so_former bytes former FormerRefused e is refl in
    fewer H (Is H FormerRefused) H _ _ (λ f h. (former_so bytes former f e is h, so))
    (one H _ FormerRefused _ _ (always (H FormerRefused) so) c.add_if.ensures)
