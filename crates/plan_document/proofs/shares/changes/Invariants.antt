use Rattle.std.proofs.Common.{◌≡◌, map}
use Rattle.rail_model.specs.Checks.{below}
use Rattle.plan_document.specs.Shares.{change_at}
use Rattle.plan_document.proofs.shares.changes.Given as goal

abbrev pub invariant-loop-place : goal.invariant-loop-place
invariant-loop-place l = l.found.items ≡ map (change_at l.shares) (below l.place)
