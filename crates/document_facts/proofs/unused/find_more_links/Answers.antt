use Rattle.std.proofs.Common.{◌≡◌, ◌+◌, ◌-◌, ◌<◌, subst, arith}
use Rattle.document_facts.proofs.Adding.{nothing, one, only_one}
use Rattle.document_facts.proofs.Tests.{always}
use Rattle.document_facts.specs.Facts.{Holds}
use Rattle.document_facts.specs.declared.fact.Fact.TheVariants.{MoreLinksUnused}
use Rattle.document_facts.specs.Kinds.{OfMoreLinks}
use Rattle.document_facts.specs.Used.{IsUnusedLink}
use Rattle.std.specs.Prelude.{length}
use Rattle.document_facts.specs.Counting.{Counts}
use Rattle.document_facts.proofs.Counting.{counts_one}
use Rattle.document_facts.proofs.unused.find_more_links.Goals as goal

pub returns-then-count-gt-NAMED : goal.returns-then-count-gt-NAMED
returns-then-count-gt-NAMED c =
    let D = c.args.doc.now in
    let K = IsUnusedLink D in
    let n = length D.layout.links in
    let count = c.args.count in
    let many = c.if-count-gt-NAMED.true in
    let sum : count ≡ 8 + (count - 8) = omega (arith, many) in
    let some : 0 < count - 8 = omega (arith, many) in
    let holds : Holds D (MoreLinksUnused (count - 8)) = (some, subst (Counts K n) sum c.requires) in
    only_one (Holds D) MoreLinksUnused (count - 8) _ _
    (λ j right. let same = counts_one K n count (8 + j) c.requires right.1 in omega (arith, same))
    (one (Holds D) _ (MoreLinksUnused (count - 8)) _ _ (always (Holds D (MoreLinksUnused (count - 8))) holds) c.add_if.ensures)

pub returns-else-count-gt-NAMED : goal.returns-else-count-gt-NAMED
returns-else-count-gt-NAMED c =
    let D = c.args.doc.now in
    nothing (Holds D) (OfMoreLinks D) _
    (λ f is.
    let right = is.1.1 in
    let same = counts_one (IsUnusedLink D) (length D.layout.links) c.args.count (8 + is.0) c.requires right.1 in
    let some = right.0 in
    let few = c.if-count-gt-NAMED.false in
    absurd (omega (arith, same, some, few)))
