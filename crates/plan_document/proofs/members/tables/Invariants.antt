use Rattle.std.proofs.Common.{◌≡◌, ◌++◌, map}
use Rattle.std.specs.Vec.Iter.{into_iter_items}
use Rattle.document_shapes.specs.Seen.{seen_table}
use Rattle.plan_document.specs.Written.{table_of}
use Rattle.plan_document.proofs.members.tables.Given as goal

abbrev pub invariant-loop-plan : goal.invariant-loop-plan
invariant-loop-plan l =
    (goal.iterator-loop-plan).can_next l.plan-iterator
    × (goal.iterator-loop-plan).is_finite l.plan-iterator
    × (map table_of l.fn.plans.items ≡ map seen_table l.found.items ++ map table_of (into_iter_items l.plan-iterator))
