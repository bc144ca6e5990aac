use Rattle.std.proofs.Common.{◌≡◌, map, take, string_bytes}
use Rattle.toml.specs.View.{view}
use Rattle.plan_crossed.specs.Said.{number_said}
use Rattle.plan_crossed.proofs.entries.way_numbers.Given as goal

abbrev pub invariant-loop-value : goal.invariant-loop-value
invariant-loop-value l = l.found.items ≡ map (λ v. number_said (map string_bytes l.names) (view v)) (take l.value-index l.values)
