use Rattle.cert_maker.proofs.Common.{pos, ◌≤ℤ◌, refl, ap, arith, ints, limit, Range, greatest_count}
use Rattle.cert_maker.proofs.Behind.{room_at_end, room_behind, fits_behind}
use Rattle.cert_maker.proofs.slack.has_room.Goals as goal

pub returns-then-hi-last_of : goal.returns-then-hi-last_of
returns-then-hi-last_of c =
    let i = c.args.train in
    let end = ap (λ (r : Range). r.hi) c.span.ensures in
    let within : greatest_count c.args.table.now c.args.ranges.now c.args.section ≤ℤ pos (limit c.args.table.now c.args.section) = omega (arith, ints, c.requires.sum.sum_is, c.requires.within) in (
      λ _. room_at_end c.args.table.now c.args.ranges.now i c.args.section c.last_of.ensures.formed c.requires.train within
          (omega (arith, end, c.hi.ensures, c.last_of.ensures.last, c.if-hi-last_of.true)),
      λ _. refl,
    )

pub returns : goal.returns
returns c =
    let T = c.args.table.now in
    let B = c.args.ranges.now in
    let i = c.args.train in
    let s = c.args.section in
    let table = c.last_of.ensures.formed in
    let within : greatest_count c.args.table.now c.args.ranges.now c.args.section ≤ℤ pos (limit c.args.table.now c.args.section) = omega (arith, ints, c.requires.sum.sum_is, c.requires.within) in (
      λ fits. room_behind T B i s table c.requires.train within (grind (arith, ints, c.most_behind-most.ensures, c.limit_of-limit.ensures.limit, fits)),
      λ room. (
          let fits = fits_behind T B i s table c.requires.train within c.requires.boxed c.requires.section room in
          grind (arith, ints, c.most_behind-most.ensures, c.limit_of-limit.ensures.limit, fits)
          ),
    )
