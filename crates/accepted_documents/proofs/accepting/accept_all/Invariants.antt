use Rattle.std.proofs.Common.{◌≡◌, ◌++◌}
use Rattle.std.specs.Vec.Iter.{into_iter_items}
use Rattle.accepted_documents.proofs.AcceptedTables.{AreTaken}
use Rattle.accepted_documents.proofs.accepting.accept_all.Given as goal

abbrev pub invariant-loop-part : goal.invariant-loop-part
invariant-loop-part g l =
    (goal.iterator-loop-part g).can_next l.part-iterator
    × (goal.iterator-loop-part g).is_finite l.part-iterator
    × (l.fn.parts.items ≡ l.yielded ++ into_iter_items l.part-iterator)
    × (l.checked.doc ≡ l.fn.doc)
    × AreTaken l.fn.doc l.fn.parts.items l.yielded l.checked.tables.items l.checked.certs.items
