use Rattle.document_facts.proofs.Adding.{one}
use Rattle.document_facts.proofs.Tests.{there}
use Rattle.document_facts.specs.Facts.{Holds, named}
use Rattle.document_facts.specs.declared.fact.Fact.TheVariants.{LinkUnused}
use Rattle.std.proofs.Common.{◌<◌}
use Rattle.std.specs.Prelude.{length}
use Rattle.document_facts.specs.Counting.{IsAmongFirst}
use Rattle.document_facts.specs.Used.{IsUnusedLink}
use Rattle.document_facts.proofs.unused.find_link.Goals as goal

pub returns-clause-adds : goal.returns-clause-adds
returns-clause-adds c =
    let D = c.args.doc.now in
    let k = c.args.link in
    one (Holds D) _ (LinkUnused k) _ _
    (there (k < length D.layout.links) (IsAmongFirst (IsUnusedLink D) named k) c.is_named.result c.requires.link c.is_named.ensures) c.add_if.ensures
