use Rattle.std.proofs.Common.{◌≡◌, ◌++◌, length, take}
use Rattle.std.specs.Vec.Iter.{into_iter_items}
use Rattle.document_json.specs.Doc.{offers_of}
use Rattle.ats_answers.specs.Making.{tables_in}
use Rattle.ats_answers.proofs.drill.live_tables.Given as goal

abbrev pub invariant-loop-table : goal.invariant-loop-table
invariant-loop-table l =
    (goal.iterator-loop-table).can_next l.table-iterator
    × (goal.iterator-loop-table).is_finite l.table-iterator
    × (tables_in l.doc ≡ l.yielded ++ into_iter_items l.table-iterator)
    × (length l.tables.items ≡ length l.yielded)
    × (l.tables.items ≡ take (length l.yielded) (offers_of l.doc))
