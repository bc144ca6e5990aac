use Rattle.std.proofs.Common.{◌≤◌, length}
use Rattle.std.specs.Prelude.{All}
use Rattle.state_core.specs.Guard.{IsGuard}
use Rattle.section_protect.proofs.rounds.protect.Given as goal

abbrev pub invariant-loop-protected : goal.invariant-loop-protected
invariant-loop-protected g l = record {
  guards_are : All (IsGuard l.table) l.guards.items;
  few : length l.guards.items ≤ l.room;
}

abbrev pub decreases-loop-protected : goal.decreases-loop-protected
decreases-loop-protected g l = l.left
