use Rattle.std.proofs.Common.{arith}
use Rattle.std.specs.Prelude.{Contains, IfSome}
use Rattle.train_graph.proofs.Rows.{adds_both, all_more, all_whole}
use Rattle.train_graph.proofs.order.push_starts.Goals as goal

pub loop-start-preserved : goal.loop-start-preserved
loop-start-preserved c =
    let so_far = c.loop-start.invariant in
    let new = c.in_ok-push_new.ensures in (
      adds_both c.args.points.now.items c.loop-start.points.items c.push_new.new.points.items so_far.0 new.adds,
      all_more (λ start. start) c.loop-start.points.items c.push_new.new.points.items c.args.starts.now c.loop-start.start-index _ c.loop-start-test.true new.adds so_far.1 new.there,
    )

pub returns-clause-all : goal.returns-clause-all
returns-clause-all c = all_whole (λ start. IfSome start (Contains c.loop-start.points.items)) c.args.starts.now c.loop-start.start-index (omega arith) c.loop-start.invariant.1
