use Rattle.std.proofs.Common.{pos, arith}
use Rattle.std.specs.Prelude.{if◌then◌else◌}
use Rattle.std.proofs.lemmas.Int.{ints}
use Rattle.rail_model.specs.Table.{share, place}
use Rattle.rail_model.proofs.Sums.{total_next}
use Rattle.state_core.specs.Core.{has}
use Rattle.state_core.proofs.keepers.count_within.Goals as goal

pub loop-train-preserved : goal.loop-train-preserved
loop-train-preserved c =
    let T = c.args.table.now in
    let p = c.args.state.now in
    let next = total_next (λ j. if has c.args.group.now j then share T j c.args.section (place p j)
    else pos 0) c.loop-train.train in
    let own = c.share_within-sum.ensures in
    record {
      sum = omega (arith, ints, own.share, next);
      low = omega (arith, ints, own.low);
      high = omega (arith, ints, own.high);
    }
