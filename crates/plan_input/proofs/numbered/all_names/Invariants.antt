use Rattle.std.proofs.Common.{◌≡◌, map}
use Rattle.document_shapes.specs.Seen.{names_seen}
use Rattle.rail_model.specs.Checks.{below}
use Rattle.plan_input.specs.Numbered.{names_at}
use Rattle.plan_input.proofs.numbered.all_names.Given as goal

abbrev pub invariant-loop-table : goal.invariant-loop-table
invariant-loop-table l = map names_seen l.all.items ≡ map (names_at l.further l.doc (map names_seen l.names)) (below l.table)
