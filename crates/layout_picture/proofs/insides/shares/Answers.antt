use Rattle.std.proofs.Common.{◌∙◌, ◌+◌, sym, arith}
use Rattle.rail_model.specs.Table.{last}
use Rattle.layout_picture.specs.Areas.{shares_at}
use Rattle.layout_picture.proofs.Some.{one_is}
use Rattle.layout_picture.proofs.insides.shares.Goals as goal

pub returns-then-shares_at : goal.returns-then-shares_at
returns-then-shares_at c =
    sym
    (one_is (shares_at c.args.table.now c.args.section c.args.point c.args.train) c.loop-place.place (last c.args.table.now c.args.train + 1)
    (omega (arith, c.last_of-place-end.ensures.last)) (sym c.shares_at.ensures ∙ c.if-shares_at.true))
