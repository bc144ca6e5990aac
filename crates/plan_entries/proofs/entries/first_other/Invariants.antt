use Rattle.std.proofs.Common.{◌≡◌, drop}
use Rattle.toml.specs.View.{items_view}
use Rattle.plan_entries.specs.Found.{are_names}
use Rattle.plan_entries.proofs.entries.first_other.Given as goal

abbrev pub invariant-loop-value : goal.invariant-loop-value
invariant-loop-value l = are_names (items_view (drop l.value-index l.values)) ≡ are_names (items_view l.values)
