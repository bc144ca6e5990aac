use Rattle.document_facts.proofs.Adding.{lost, nothing}
use Rattle.document_lint.proofs.Bytes.{none_since, refused_as}
use Rattle.document_lint.specs.Told.{HoldsAfter}
use Rattle.document_lint.proofs.reading.note_refused.Goals as goal

pub returns-in-Memory : goal.returns-in-Memory
returns-in-Memory c =
    let H = HoldsAfter c.args.bytes.now c.args.former.now in
    lost H H _ _ c.note_no_memory.ensures.facts c.note_no_memory.ensures.lost

pub returns-in_default : goal.returns-in_default
returns-in_default c =
    let bytes = c.args.bytes.now in
    let former = c.args.former.now in
    let H = HoldsAfter bytes former in
    let e = c.args.refused.now in
    let is = refused_as bytes e c.requires.read c.in_default.not-Memory in
    nothing H H _ (λ f h. none_since bytes former f e c.args.old.now is c.requires.former h)
