use Rattle.std.proofs.Common.{ℕ, ◌<◌}
use Rattle.std.specs.Prelude.{slice_get}
use Rattle.std.specs.Option.{ForSome}
use Rattle.toml.specs.View.{items_view, table_view}
use Rattle.plan_reading.specs.Said.{AgreesIn, own_of}
use Rattle.plan_reading.proofs.agreement.tables_as_said.Given as goal

abbrev pub invariant-loop-number : goal.invariant-loop-number
invariant-loop-number l = (k : ℕ) → k < l.number → ForSome (slice_get l.plan.tables.items k) (AgreesIn (table_view l.text) (own_of (items_view l.further) k) l.plan)
