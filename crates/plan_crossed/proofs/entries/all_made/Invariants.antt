use Rattle.std.proofs.Common.{◌≡◌, map, take}
use Rattle.toml.specs.View.{view}
use Rattle.plan_crossed.specs.Said.{said}
use Rattle.plan_crossed.proofs.entries.all_made.Given as goal

abbrev pub invariant-loop-value : goal.invariant-loop-value
invariant-loop-value l = l.found.items ≡ map (λ v. said l.shape l.plan.points.items (view v)) (take l.value-index l.values)
