use Rattle.std.proofs.Common.{◌≡◌, map, take}
use Rattle.toml.specs.View.{view}
use Rattle.plan_crossed.specs.Said.{point_said}
use Rattle.plan_crossed.proofs.entries.points.Given as goal

abbrev pub invariant-loop-name : goal.invariant-loop-name
invariant-loop-name l = l.found.items ≡ map (λ v. point_said l.plan.points.items (view v)) (take l.name-index l.names)
