use Rattle.std.proofs.Common.{◌≡◌, map, take, string_bytes}
use Rattle.toml.specs.View.{view}
use Rattle.plan_crossed.specs.Said.{group_said}
use Rattle.plan_crossed.proofs.entries.groups.Given as goal

abbrev pub invariant-loop-value : goal.invariant-loop-value
invariant-loop-value l = l.found.items ≡ map (λ v. group_said (map string_bytes l.names) (view v)) (take l.value-index l.values)
