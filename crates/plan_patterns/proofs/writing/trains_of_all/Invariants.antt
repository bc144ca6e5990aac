use Rattle.std.proofs.Common.{◌≡◌, map, take}
use Rattle.std.specs.List.{flat_map}
use Rattle.toml.specs.View.{table_view, view}
use Rattle.plan_patterns.specs.Expanded.{trains_of}
use Rattle.plan_patterns.proofs.writing.trains_of_all.Given as goal

abbrev pub invariant-loop-entry : goal.invariant-loop-entry
invariant-loop-entry l = map view l.all.items ≡ flat_map (λ v. trains_of (map view l.patterns) (table_view l.ways) (view v)) (take l.entry-index l.entries)
