use Rattle.call_tests.proofs.Offered.{on_given}
use Rattle.call_tests.proofs.stages.opened.Goals as goal

pub new-requires-clause-points : goal.new-requires-clause-points
new-requires-clause-points c =
    on_given c.args.doc.now c.layout-layout.result.now c.args.tables.now c.layout-layout.ensures.formed c.layout-layout.ensures.layout c.requires

pub resume-requires-clause-points : goal.resume-requires-clause-points
resume-requires-clause-points c =
    on_given c.args.doc.now c.layout-layout.result.now c.args.tables.now c.layout-layout.ensures.formed c.layout-layout.ensures.layout c.requires
