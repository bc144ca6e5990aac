use Rattle.std.proofs.Common.{rules}
use Rattle.move_claim.proofs.SmallCounts.{count_small}
use Rattle.move_claim.proofs.deciding.number_after.Goals as goal

pub overflow_cast-result : goal.overflow_cast-result
overflow_cast-result c =
    let small = count_small c.args.table.now c.args.claim c.args.known.now c.args.k c.args.section
    c.count_after.ensures.formed c.requires.claim c.requires.step.0 c.requires.step.1 c.requires.section c.requires.changed c.requires.small in
    search rules
