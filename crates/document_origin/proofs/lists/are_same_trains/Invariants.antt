use Rattle.std.proofs.Common.{◌≡◌, ℕ, ◌<◌}
use Rattle.rail_model.specs.Names.{train_name}
use Rattle.document_origin.proofs.lists.are_same_trains.Given as goal

abbrev pub invariant-loop-i : goal.invariant-loop-i
invariant-loop-i l = (k : ℕ) → k < l.i → train_name l.first k ≡ train_name l.second k
