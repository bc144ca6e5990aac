use Rattle.std.proofs.Common.{refl}
use Rattle.document_facts.proofs.Adding.{fewer, one}
use Rattle.document_facts.proofs.Tests.{always}
use Rattle.document_facts.specs.Adding.{Is, Nothing}
use Rattle.document_lint.specs.Told.{IsOfMembers}
use Rattle.document_facts.specs.declared.fact.Fact.TheVariants.{Member}
use Rattle.document_lint.proofs.reading.add_member.Goals as goal

pub returns : goal.returns
returns c =
    let fact = Member c.args.what in
    fewer IsOfMembers (Is IsOfMembers fact) Nothing _ _ (λ f is. absurd is) (one IsOfMembers _ fact _ _ (always (IsOfMembers fact) (c.args.what, refl)) c.add_if.ensures)
