use Rattle.std.proofs.Common.{◌≡◌, ◌++◌, length, map}
use Rattle.std.specs.Vec.Iter.{into_iter_items}
use Rattle.ats_answers.proofs.Made.{AreMadeBelow}
use Rattle.ats_answers.proofs.making.make_each.Given as goal

abbrev pub invariant-loop-table : goal.invariant-loop-table
invariant-loop-table l =
    (goal.iterator-loop-table).can_next l.table-iterator ×
    (goal.iterator-loop-table).is_finite l.table-iterator ×
    (l.fn.tables.items ≡ l.yielded ++ into_iter_items l.table-iterator) ×
    (map (λ p. p.0) l.parts.items ≡ l.yielded) ×
    AreMadeBelow l.fn.tables.items l.budget.nodes (length l.yielded) (map (λ p. p.1) l.parts.items)
