use Rattle.std.proofs.Common.{rules, below_more}
use Rattle.std.specs.Prelude.{IsTrue}
use Rattle.toml.specs.View.{items_view}
use Rattle.plan_reading.specs.Said.{starts_right}
use Rattle.plan_reading.proofs.agreement.all_start_right.Goals as goal

pub loop-train-preserved : goal.loop-train-preserved
loop-train-preserved c =
    below_more (λ k. IsTrue (starts_right (items_view c.args.entries.now) c.args.plan.now c.args.first.now k)) c.loop-train.train c.loop-train.invariant (search rules)
