use Rattle.std.proofs.Common.{◌≡◌, length, map}
use Rattle.document_json.specs.Doc.{nodes_at}
use Rattle.rail_model.specs.Checks.{below}
use Rattle.planner_run.proofs.reporting.certificate_sizes.Given as goal

abbrev pub invariant-loop-table : goal.invariant-loop-table
invariant-loop-table l = l.sizes.items ≡ map (λ t. length (nodes_at l.doc t)) (below l.table)
