use Rattle.std.proofs.Common.{◌≡◌, ◌-◌}
use Rattle.rail_model.specs.Table.{trains}
use Rattle.live_answers.proofs.Awaiting.{AreFollowed}
use Rattle.live_answers.proofs.waiting.awaited.Given as goal

abbrev pub invariant-loop-next : goal.invariant-loop-next
invariant-loop-next l = record {
  trains : l.row.trains ≡ trains l.scene.table;
  followed : AreFollowed l.scene l.tolds l.train l.row.wants l.next;
}

abbrev pub decreases-loop-next : goal.decreases-loop-next
decreases-loop-next l = trains l.scene.table - l.next
