use Rattle.std.proofs.Common.{◌≡◌, ℕ, ◌<◌, [], get_or}
use Rattle.document_origin.proofs.lists.are_same_points.Given as goal

abbrev pub invariant-loop-i : goal.invariant-loop-i
invariant-loop-i l = (k : ℕ) → k < l.i → get_or l.first k (record { name = []; zone = 0 }) ≡ get_or l.second k (record { name = []; zone = 0 })
