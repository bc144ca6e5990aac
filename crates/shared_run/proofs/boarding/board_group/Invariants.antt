use Rattle.std.proofs.Common.{◌≡◌, ◌≤◌}
use Rattle.std.specs.Vec.{vec_capacity, vec_len}
use Rattle.shared_run.proofs.Ashore.{Waits}
use Rattle.shared_run.proofs.Boards.{Deals}
use Rattle.shared_run.proofs.boarding.board_group.Given as goal

abbrev pub invariant-loop-train : goal.invariant-loop-train
invariant-loop-train l = record {
  deals : Deals l.initial.root l.train l.workers l.group l.drivers.items l.root;
  waits : Waits l.workers l.group l.train l.root;
  len : vec_len l.drivers ≤ l.train;
  room : vec_capacity l.drivers ≡ vec_capacity l.initial.drivers;
}
