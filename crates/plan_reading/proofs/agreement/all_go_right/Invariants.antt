use Rattle.std.proofs.Common.{ℕ, ◌<◌}
use Rattle.std.specs.Prelude.{IsTrue}
use Rattle.toml.specs.View.{items_view}
use Rattle.plan_reading.specs.Agreeing.{seen}
use Rattle.plan_reading.specs.Said.{goes_right}
use Rattle.plan_reading.proofs.agreement.all_go_right.Given as goal

abbrev pub invariant-loop-train : goal.invariant-loop-train
invariant-loop-train l = (k : ℕ) → k < l.train → IsTrue (goes_right (items_view l.entries) (seen l.own) l.plan l.table k)
