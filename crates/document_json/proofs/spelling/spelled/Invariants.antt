use Rattle.std.proofs.Common.{◌≡◌, ◌++◌, length, map}
use Rattle.std.specs.Vec.Iter.{into_iter_items}
use Rattle.document_json.specs.Doc.{Doc}
use Rattle.document_json.specs.Keeps.{untimed}
use Rattle.document_json.proofs.Listed.{AreSpelled}
use Rattle.document_json.proofs.spelling.spelled.Given as goal

abbrev pub invariant-loop-table : goal.invariant-loop-table
invariant-loop-table l =
    (goal.iterator-loop-table).can_next l.table-iterator
    × (goal.iterator-loop-table).is_finite l.table-iterator
    × (l.fn.tables.items ≡ l.yielded ++ into_iter_items l.table-iterator)
    × (length l.found.items ≡ length l.yielded)
    × ((D : Doc) → map untimed D.tables ≡ l.fn.tables.items → AreSpelled D l.yielded l.found.items)
