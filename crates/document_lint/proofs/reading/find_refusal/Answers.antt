use Rattle.std.proofs.Common.{inl, inr}
use Rattle.document_facts.proofs.Adding.{both, fewer, righter}
use Rattle.document_facts.specs.Adding.{Nothing, Or}
use Rattle.document_lint.specs.Told.{HoldsOf, IsOfMembers, IsRight}
use Rattle.document_lint.proofs.reading.find_refusal.Goals as goal

pub returns : goal.returns
returns c =
    let H = HoldsOf c.args.bytes.now in
    fewer (IsRight H) (Or H Nothing) H _ _ (λ f h. inl h)
    (both (IsRight H) H Nothing _ _ _ (righter H (IsRight H) H _ _ (λ f h. inr h) c.find_refused.ensures)
    (righter IsOfMembers (IsRight H) Nothing _ _ (λ f m. inl m) c.find_members.ensures))
