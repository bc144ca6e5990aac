use Rattle.std.proofs.Common.{ℕ, ◌<◌}
use Rattle.std.specs.Prelude.{IsTrue}
use Rattle.toml.specs.View.{items_view}
use Rattle.plan_reading.specs.Said.{starts_right}
use Rattle.plan_reading.proofs.agreement.all_start_right.Given as goal

abbrev pub invariant-loop-train : goal.invariant-loop-train
invariant-loop-train l = (k : ℕ) → k < l.train → IsTrue (starts_right (items_view l.entries) l.plan l.first k)
