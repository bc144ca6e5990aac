use Rattle.document_facts.proofs.Adding.{one}
use Rattle.document_facts.proofs.Tests.{there}
use Rattle.document_facts.specs.Facts.{Holds, IsUnusedPoint}
use Rattle.document_facts.specs.declared.fact.Fact.TheVariants.{PointUnused}
use Rattle.std.proofs.Common.{◌<◌}
use Rattle.std.specs.Prelude.{length}
use Rattle.document_facts.proofs.unused.find_point.Goals as goal

pub returns : goal.returns
returns c =
    let D = c.args.doc.now in
    let q = c.args.point in
    one (Holds D) _ (PointUnused q) _ _ (there (q < length D.layout.points) (IsUnusedPoint D q) c.is_unused_point.result c.requires c.is_unused_point.ensures) c.add_if.ensures
