use Rattle.std.proofs.Common.{arith}
use Rattle.std.proofs.lemmas.Grind.{common_steps}
use Rattle.std.proofs.lemmas.List.FromFn.{map-range_with_len_more}
use Rattle.wait_causes.specs.Before.{place_before}
use Rattle.wait_causes.proofs.before.positions_before.Goals as goal

pub loop-train-preserved : goal.loop-train-preserved
loop-train-preserved c =
    let place = place_before c.args.doc.now c.args.run.now c.args.tick in
    let more = map-range_with_len_more place 0 c.loop-train.train c.loop-train.train (omega arith) in
    grind (arith, common_steps, more)
