use Rattle.std.proofs.Common.{inl, inr}
use Rattle.document_facts.proofs.Adding.{both, fewer, righter}
use Rattle.document_facts.specs.Adding.{Nothing, Or}
use Rattle.document_lint.proofs.Bytes.{of_so, so_of}
use Rattle.document_lint.proofs.AllKinds.{of_document}
use Rattle.document_lint.specs.Told.{HoldsOf, IsOfMembers, IsRight}
use Rattle.document_facts.specs.Facts.{Holds}
use Rattle.document_facts.specs.Kinds.{OfDocument}
use Rattle.document_lint.proofs.reading.find_taken.Goals as goal

pub returns : goal.returns
returns c =
    let bytes = c.args.bytes.now in
    let H = HoldsOf bytes in
    let D = c.args.doc.now in
    fewer (IsRight H) (Or Nothing (OfDocument D)) H _ _ (λ f h. inr (of_document D f (of_so bytes f D c.requires h)))
    (both (IsRight H) Nothing (OfDocument D) _ _ _ (righter IsOfMembers (IsRight H) Nothing _ _ (λ f m. inl m) c.find_members.ensures)
    (righter (Holds D) (IsRight H) (OfDocument D) _ _ (λ f h. inr (so_of bytes f D c.requires h)) c.find_in.ensures))
