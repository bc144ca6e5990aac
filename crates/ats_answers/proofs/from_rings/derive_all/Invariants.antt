use Rattle.std.proofs.Common.{◌≡◌, ◌++◌, ℕ, ◌<◌, length, take}
use Rattle.std.specs.Vec.Iter.{into_iter_items}
use Rattle.document_json.specs.Doc.{table_at}
use Rattle.ats_answers.specs.Deriving.{derived, HasFewRings}
use Rattle.ats_answers.specs.Making.{tables_in}
use Rattle.ats_answers.proofs.from_rings.derive_all.Given as goal

abbrev pub invariant-loop-table : goal.invariant-loop-table
invariant-loop-table l =
    (goal.iterator-loop-table).can_next l.table-iterator
    × (goal.iterator-loop-table).is_finite l.table-iterator
    × (tables_in l.doc ≡ l.yielded ++ into_iter_items l.table-iterator)
    × (length l.marked.items ≡ length l.yielded)
    × (l.marked.items ≡ take (length l.yielded) (derived l.doc l.most))
    × ((u : ℕ) → u < length l.yielded → HasFewRings l.most (table_at l.doc u))
