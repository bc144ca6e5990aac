use Rattle.std.proofs.Common.{◌≡◌, ◌+◌, ◌*◌, map, take}
use Rattle.std.specs.List.{flat_map}
use Rattle.toml.specs.View.{table_view, view}
use Rattle.plan_patterns.specs.Ways.{points_of}
use Rattle.plan_patterns.proofs.ways.+points.Given as goal

abbrev pub decreases-points_of : goal.decreases-points_of
decreases-points_of l = 3 * l.steps

abbrev pub decreases-along : goal.decreases-along
decreases-along l = 3 * l.steps + 2

abbrev pub decreases-points_along : goal.decreases-points_along
decreases-points_along l = 3 * l.steps + 1

abbrev pub invariant-points_along-loop-item : goal.invariant-points_along-loop-item
invariant-points_along-loop-item l = map view l.all.items ≡ flat_map (λ v. points_of l.steps (table_view l.ways) (view v)) (take l.item-index l.items)
