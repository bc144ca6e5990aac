use Rattle.std.proofs.Common.{refl}
use Rattle.document_facts.proofs.Adding.{fewer, lost, one}
use Rattle.document_facts.proofs.Tests.{always}
use Rattle.document_facts.specs.Adding.{Is}
use Rattle.document_lint.proofs.Bytes.{refused_as, refused_so, so_refused}
use Rattle.document_lint.specs.Told.{HoldsOf}
use Rattle.document_facts.specs.declared.fact.Fact.TheVariants.{Refused}
use Rattle.document_lint.proofs.reading.find_refused.Goals as goal

pub returns-in-Memory : goal.returns-in-Memory
returns-in-Memory c = lost (HoldsOf c.args.bytes.now) (HoldsOf c.args.bytes.now) _ _ c.note_no_memory.ensures.facts c.note_no_memory.ensures.lost

pub returns-in_default : goal.returns-in_default
returns-in_default c =
    let bytes = c.args.bytes.now in
    let e = c.args.refused.now in
    let is = refused_as bytes e c.requires c.in_default.not-Memory in
    let so = so_refused bytes Refused e is refl in
    fewer (HoldsOf bytes) (Is (HoldsOf bytes) Refused) (HoldsOf bytes) _ _ (λ f h. (refused_so bytes f e is h, so))
    (one (HoldsOf bytes) _ Refused _ _ (always (HoldsOf bytes Refused) so) c.add_if.ensures)
