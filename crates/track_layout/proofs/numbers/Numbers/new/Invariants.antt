use Rattle.std.proofs.Common.{◌≡◌, ◌++◌, length, map, None, string_bytes}
use Rattle.std.specs.Vec.Iter.{into_iter_items}
use Rattle.rail_model.specs.Turns.{first_below}
use Rattle.rail_model.specs.Naming.{double_at}
use Rattle.track_layout.proofs.numbers.Numbers.new.Given as goal

abbrev pub invariant-loop-name : goal.invariant-loop-name
invariant-loop-name l =
    (goal.iterator-loop-name).can_next l.name-iterator ×
    (goal.iterator-loop-name).is_finite l.name-iterator ×
    (l.set.keys ≡ l.yielded) ×
    (l.fn.names.items ≡ l.yielded ++ into_iter_items l.name-iterator) ×
    (first_below (length l.yielded) (double_at (map string_bytes l.fn.names.items)) ≡ None)
