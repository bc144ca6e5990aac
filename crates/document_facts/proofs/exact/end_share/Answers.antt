use Rattle.std.proofs.Common.{ap, arith}
use Rattle.std.proofs.lemmas.Int.{ints}
use Rattle.rail_model.specs.Table.{last, share}
use Rattle.document_facts.proofs.exact.end_share.Goals as goal

pub returns-clause-low : goal.returns-clause-low
returns-clause-low c =
    let T = c.args.table.now in
    let i = c.args.train in
    let low = (c.share_at.ensures.formed.sections c.args.section c.requires.section).not_below i (last T i) c.requires.train (omega arith) in
    omega (arith, ints, low, c.share_at.ensures.share, ap (share T i c.args.section) c.last_of.ensures.last)

pub returns-clause-high : goal.returns-clause-high
returns-clause-high c =
    let T = c.args.table.now in
    let i = c.args.train in
    let high = (c.share_at.ensures.formed.sections c.args.section c.requires.section).not_above i (last T i) c.requires.train (omega arith) in
    omega (arith, ints, high, c.share_at.ensures.share, ap (share T i c.args.section) c.last_of.ensures.last)
