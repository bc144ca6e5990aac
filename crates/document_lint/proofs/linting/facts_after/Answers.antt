use Rattle.std.proofs.Common.{inl, inr}
use Rattle.std.proofs.lemmas.Result.{IfOk-weaker}
use Rattle.document_facts.specs.Adding.{Or}
use Rattle.document_lint.specs.Told.{HoldsAfter, HoldsOf, IsRight}
use Rattle.document_facts.proofs.Adding.{both, righter}
use Rattle.document_lint.proofs.All.{all_found}
use Rattle.document_lint.proofs.linting.facts_after.Goals as goal

pub returns : goal.returns
returns c =
    let H = HoldsOf c.args.bytes.now in
    let A = HoldsAfter c.args.bytes.now c.args.former.now in
    let first =
    righter (IsRight H) (IsRight (Or H A)) H _ _ (λ f right. elim right [
      | inl m ↦ inl m
      | inr h ↦ inr (inl h)
    ]) c.find_of.ensures in
    let then_these = righter A (IsRight (Or H A)) A _ _ (λ f h. inr (inr h)) c.find_after.ensures in
    let found = both (IsRight (Or H A)) H A _ _ _ first then_these in
    IfOk-weaker c.into_result.result _ _ (λ facts is. all_found (Or H A) c.new-found.result c.find_after.new.found c.new-found.ensures found facts is)
    c.into_result.ensures
