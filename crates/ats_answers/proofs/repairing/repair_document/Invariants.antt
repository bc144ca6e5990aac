use Rattle.std.proofs.Common.{◌≡◌, ◌++◌, length}
use Rattle.std.specs.Vec.Iter.{into_iter_items}
use Rattle.ats_answers.specs.Making.{tables_in}
use Rattle.ats_answers.specs.Repairing.{AreRepaired}
use Rattle.ats_answers.proofs.repairing.repair_document.Given as goal

abbrev pub invariant-loop-table : goal.invariant-loop-table
invariant-loop-table l =
    (goal.iterator-loop-table).can_next l.table-iterator
    × (goal.iterator-loop-table).is_finite l.table-iterator
    × (tables_in l.doc ≡ l.yielded ++ into_iter_items l.table-iterator)
    × AreRepaired l.doc l.budget.nodes l.rounds (length l.yielded) l.parts.items
