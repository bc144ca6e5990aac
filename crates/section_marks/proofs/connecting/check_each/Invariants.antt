use Rattle.std.proofs.Common.{◌≡◌, None}
use Rattle.rail_model.specs.Turns.{first_below}
use Rattle.section_marks.specs.Connecting.{connection_refusal, connection_at}
use Rattle.section_marks.proofs.connecting.check_each.Given as goal

abbrev pub invariant-loop-index : goal.invariant-loop-index
invariant-loop-index l = first_below l.index (λ c. connection_refusal l.table c (connection_at l.list c)) ≡ None
