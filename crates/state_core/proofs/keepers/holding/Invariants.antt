use Rattle.std.proofs.Common.{◌≡◌, None, take, ◌&&◌}
use Rattle.std.specs.Prelude.{find}
use Rattle.rail_model.specs.Checks.{is_held_by}
use Rattle.state_core.specs.Core.{has}
use Rattle.state_core.proofs.keepers.holding.Given as goal

abbrev pub invariant-loop-connection : goal.invariant-loop-connection
invariant-loop-connection l =
    find (λ k. is_held_by l.state l.train k && has l.group k.other) (take l.connection-index l.table.connections) ≡ None
