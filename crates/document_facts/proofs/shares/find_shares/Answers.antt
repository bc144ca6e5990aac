use Rattle.std.proofs.Common.{◌≡◌, subst}
use Rattle.document_facts.proofs.Adding.{one}
use Rattle.document_facts.proofs.Tests.{there_at}
use Rattle.document_facts.specs.Facts.{AreShares, Holds, IsShareOf, changes_of, greatest_in}
use Rattle.document_facts.specs.declared.fact.Fact.TheVariants.{LikeShares}
use Rattle.std.specs.Prelude.{◌↔◌, IsTrue}
use Rattle.document_facts.proofs.shares.find_shares.Goals as goal

pub returns : goal.returns
returns c =
    let D = c.args.doc.now in
    let t = c.args.table in
    let s = c.args.section in
    let i = c.args.train in
    let right = subst (λ numbers. IsTrue c.are_shares.result ↔ AreShares (greatest_in c.from.result) numbers) c.changes_of-numbers.ensures c.are_shares.ensures in
    let same : c.from.result ≡ D.version = cc in
    let at_most =
    subst (λ version. IsTrue c.are_shares.result ↔ AreShares (greatest_in version) (changes_of c.table_of.result.now s i)) same right in
    one (Holds D) _ (LikeShares t s i) _ _
    (there_at (IsShareOf D t s i) (λ T. AreShares (greatest_in D.version) (changes_of T s i)) c.are_shares.result _ _ c.requires c.table_of.ensures.table at_most)
    c.add_if.ensures
