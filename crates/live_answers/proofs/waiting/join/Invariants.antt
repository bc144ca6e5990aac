use Rattle.std.proofs.Common.{◌≡◌, List, ℕ, ◌++◌, take}
use Rattle.std.specs.Prelude.{All}
use Rattle.live_yard.specs.Wants.{HasWant}
use Rattle.live_answers.proofs.waiting.join.Given as goal

abbrev pub invariant-loop-train : goal.invariant-loop-train
invariant-loop-train l = record {
  trains : l.row.trains ≡ l.fn.row.trains;
  added : (added : List ℕ) × (l.row.wants ≡ l.fn.row.wants ++ added) × All (HasWant l.by) added;
  all : All (HasWant l.row.wants) (take l.train-index l.by);
}
