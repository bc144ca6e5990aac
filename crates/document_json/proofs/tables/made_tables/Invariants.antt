use Rattle.std.proofs.Common.{◌≡◌, All, length, map}
use Rattle.std.specs.Vec.Iter.{into_iter_items}
use Rattle.rail_model.specs.Table.{IsTable}
use Rattle.document_shapes.proofs.TurnLemmas.{TakenTo}
use Rattle.document_shapes.specs.Seen.{seen_table}
use Rattle.document_json.specs.Keeps.{timed}
use Rattle.document_json.specs.Tables.{doc_table_of}
use Rattle.document_json.proofs.tables.made_tables.Given as goal

abbrev pub invariant-loop-table : goal.invariant-loop-table
invariant-loop-table l =
    (goal.iterator-loop-table).can_next l.table-iterator
    × (goal.iterator-loop-table).is_finite l.table-iterator
    × (length l.tables.items ≡ length l.all_times.items)
    × All (λ t. IsTable t.table) l.tables.items
    × TakenTo (doc_table_of l.version l.layout (length l.trains)) (map seen_table l.fn.members.items)
    (timed l.tables.items l.all_times.items) (length l.tables.items) (map seen_table (into_iter_items l.table-iterator))
