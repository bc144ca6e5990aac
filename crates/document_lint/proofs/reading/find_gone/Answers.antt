use Rattle.document_facts.proofs.Adding.{fewer, righter}
use Rattle.document_lint.proofs.Bytes.{since_so, so_since}
use Rattle.document_lint.proofs.AllKinds.{of_lost}
use Rattle.document_facts.specs.Former.{HoldsSince, OfLost}
use Rattle.document_lint.specs.Told.{HoldsAfter}
use Rattle.document_lint.proofs.reading.find_gone.Goals as goal

pub returns : goal.returns
returns c =
    let bytes = c.args.bytes.now in
    let former = c.args.former.now in
    let H = HoldsAfter bytes former in
    let D = c.args.doc.now in
    let G = c.args.old.now in
    fewer H (OfLost D G) H _ _ (λ f h. of_lost D G f (since_so bytes former f D G c.requires.read c.requires.former h))
    (righter (HoldsSince D G) H (OfLost D G) _ _ (λ f h. so_since bytes former f D G c.requires.read c.requires.former h) c.find_lost.ensures)
