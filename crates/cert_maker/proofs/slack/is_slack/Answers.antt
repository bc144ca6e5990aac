use Rattle.cert_maker.proofs.Common.{pos, ◌≤ℤ◌, arith, ints, limit, greatest_count}
use Rattle.cert_maker.proofs.slack.is_slack.Goals as goal

pub returns-then-sum-limit : goal.returns-then-sum-limit
returns-then-sum-limit c =
    let within : greatest_count c.args.table.now c.args.ranges.now c.args.section ≤ℤ pos (limit c.args.table.now c.args.section) =
    omega (
      arith,
      ints,
      c.greatest_sum-sum.ensures.sum_is,
      c.greatest_sum-sum.ensures.low,
      c.greatest_sum-sum.ensures.high,
      c.limit_of-limit.ensures.limit,
      (c.limit_of-limit.ensures.formed.sections c.args.section c.requires.section).low_limit,
      c.if-sum-limit.true,
    ) in
    ((λ room. record { within = within; room = c.has_room_for_all.ensures.0 room }), λ slack. c.has_room_for_all.ensures.1 slack.room)
