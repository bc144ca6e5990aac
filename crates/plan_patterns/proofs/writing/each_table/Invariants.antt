use Rattle.std.proofs.Common.{◌≡◌, map, take}
use Rattle.toml.specs.View.{table_view, view}
use Rattle.plan_patterns.specs.Expanded.{own_trains}
use Rattle.plan_patterns.proofs.writing.each_table.Given as goal

abbrev pub invariant-loop-own : goal.invariant-loop-own
invariant-loop-own l = map view l.all.items ≡ map (λ v. own_trains (map view l.patterns) (table_view l.ways) (view v)) (take l.own-index l.further)
