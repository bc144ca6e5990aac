use Rattle.std.proofs.Common.{◌≡◌, ◌++◌, map}
use Rattle.toml.specs.View.{members_view, table_view}
use Rattle.plan_crossed.specs.Said.{values_of, way_said}
use Rattle.plan_crossed.proofs.entries.ways.Given as goal

abbrev pub invariant-loop-names : goal.invariant-loop-names
invariant-loop-names l =
    l.found.items ++ map (way_said l.plan.points.items) (values_of (members_view l.names-iterator))
    ≡ map (way_said l.plan.points.items) (values_of (table_view l.table))
