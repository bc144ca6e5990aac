use Rattle.std.proofs.Common.{◌≡◌, ◌+◌, ◌∙◌, ap, arith}
use Rattle.std.proofs.lemmas.Int.{ints}
use Rattle.rail_model.specs.Table.{share}
use Rattle.rail_model.proofs.Shares.{share_next}
use Rattle.state_boxes.specs.declared.extremes.Extremes.{Extremes}
use Rattle.state_boxes.proofs.rises.change_between.Goals as goal

pub returns : goal.returns
returns c =
    let before : c.at.result.least ≡ share c.args.table.now c.args.train c.args.section c.args.place =
    ap (λ (e : Extremes). e.least) c.at.ensures ∙ (c.requires.here.1 c.args.section c.requires.section).least_is in
    let after : c.at-2.result.least ≡ share c.args.table.now c.args.train c.args.section (c.args.place + 1) =
    ap (λ (e : Extremes). e.least) c.at-2.ensures ∙ (c.requires.next.1 c.args.section c.requires.section).least_is in
    let next = share_next c.args.table.now c.args.train c.args.section c.args.place in
    omega (arith, ints, c.from-before.ensures, c.from-after.ensures, before, after, next)
