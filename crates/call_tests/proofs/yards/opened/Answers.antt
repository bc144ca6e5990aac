use Rattle.call_tests.proofs.Opening.{begins_well}
use Rattle.call_tests.proofs.yards.opened.Goals as goal

pub new-requires : goal.new-requires
new-requires c =
    begins_well c.args.doc.now c.args.tables.now c.start.result.now c.in-Ok.begun c.start.ensures.formed c.start.ensures.start c.requires
    c.in-Ok.ensures
