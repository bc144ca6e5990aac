use Rattle.std.proofs.Common.{◌≡◌, take, map}
use Rattle.rail_model.specs.Table.{last_of}
use Rattle.state_boxes.proofs.ranges.full_box.Given as goal

abbrev pub invariant-loop-train : goal.invariant-loop-train
invariant-loop-train l = l.items.items ≡ map (λ m. record { lo = 0; hi = last_of m }) (take l.train l.table.missions)
