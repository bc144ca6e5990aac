use Rattle.std.proofs.Common.{◌≡◌, ℕ, ◌<◌, get_or}
use Rattle.document_origin.specs.Origin.{point_in}
use Rattle.document_origin.proofs.lists.are_same_routes.Given as goal

abbrev pub invariant-loop-i : goal.invariant-loop-i
invariant-loop-i l = (k : ℕ) → k < l.i → point_in l.layout (get_or l.route k 0) ≡ point_in l.planned_layout (get_or l.planned k 0)
