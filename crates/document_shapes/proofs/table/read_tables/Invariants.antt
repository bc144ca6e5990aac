use Rattle.std.proofs.Common.{map}
use Rattle.serde_json.specs.View.{view}
use Rattle.document_shapes.specs.Raw.{table_members}
use Rattle.document_shapes.specs.Seen.{seen_table}
use Rattle.document_shapes.proofs.TurnLemmas.{SliceTaken}
use Rattle.document_shapes.proofs.table.read_tables.Given as goal

abbrev pub invariant-loop-table : goal.invariant-loop-table
invariant-loop-table l = SliceTaken view (table_members l.version) l.values (map seen_table l.found.items) l.table
