use Rattle.cert_maker.proofs.Common.{arith, ints}
use Rattle.state_boxes.proofs.Summed.{extremes_few}
use Rattle.cert_maker.proofs.slack.greatest_in.Goals as goal

pub returns-clause-low : goal.returns-clause-low
returns-clause-low c =
    let formed = (c.requires.lists.are_shares.1 c.args.train c.requires.train).formed in
    let few = extremes_few c.args.table.now c.args.train c.args.section c.args.span.lo c.args.span.hi _ formed c.requires.section c.requires.train c.requires.some
    c.requires.in_range c.extremes-extremes.ensures in
    omega (arith, ints, c.from.ensures, few.greatest_low, few.greatest_high)

pub returns-clause-high : goal.returns-clause-high
returns-clause-high c =
    let formed = (c.requires.lists.are_shares.1 c.args.train c.requires.train).formed in
    let few = extremes_few c.args.table.now c.args.train c.args.section c.args.span.lo c.args.span.hi _ formed c.requires.section c.requires.train c.requires.some
    c.requires.in_range c.extremes-extremes.ensures in
    omega (arith, ints, c.from.ensures, few.greatest_low, few.greatest_high)
