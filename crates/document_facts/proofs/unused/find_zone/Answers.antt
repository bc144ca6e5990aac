use Rattle.document_facts.proofs.Adding.{one}
use Rattle.document_facts.proofs.Tests.{there}
use Rattle.document_facts.specs.Facts.{Holds}
use Rattle.document_facts.specs.declared.fact.Fact.TheVariants.{ZoneUnused}
use Rattle.std.proofs.Common.{◌<◌}
use Rattle.document_facts.specs.Used.{IsEntered}
use Rattle.document_facts.proofs.unused.find_zone.Goals as goal

pub returns : goal.returns
returns c =
    let D = c.args.doc.now in
    let z = c.args.zone in
    one (Holds D) _ (ZoneUnused z) _ _ (there (z < D.layout.zones) (IsEntered D z → ⊥) c.is_left_out.result c.requires c.is_left_out.ensures) c.add_if.ensures
