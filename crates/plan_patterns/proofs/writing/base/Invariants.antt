use Rattle.std.proofs.Common.{◌≡◌, ◌-◌, length, map}
use Rattle.toml.specs.View.{table_view, view}
use Rattle.plan_patterns.specs.Expanded.{based}
use Rattle.plan_patterns.proofs.writing.base.Given as goal

abbrev pub invariant-loop-step : goal.invariant-loop-step
invariant-loop-step l = based (length l.patterns - l.step) (map view l.patterns) (table_view l.entry) ≡ based (length l.patterns) (map view l.patterns) (table_view l.fn.entry)
