use Rattle.std.proofs.Common.{◌∙◌, sym, arith}
use Rattle.rail_model.specs.Table.{trains}
use Rattle.layout_picture.specs.Areas.{shares}
use Rattle.layout_picture.proofs.Some.{one_is}
use Rattle.layout_picture.proofs.insides.is_inside.Goals as goal

pub returns-then-shares : goal.returns-then-shares
returns-then-shares c =
    sym
    (one_is (shares c.args.table.now c.args.section c.args.point) c.loop-train.train (trains c.args.table.now)
    (omega (arith, c.trains_of-train-end.ensures.count)) (sym c.shares.ensures ∙ c.if-shares.true))
