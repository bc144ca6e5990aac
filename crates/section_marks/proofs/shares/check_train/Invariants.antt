use Rattle.std.proofs.Common.{◌≡◌, ◌≤ℤ◌, pos, None}
use Rattle.rail_model.specs.Sums.{total_below}
use Rattle.section_marks.specs.Marking.{most_share, change_at, train_refusal}
use Rattle.section_marks.proofs.shares.check_train.Given as goal

abbrev pub invariant-loop-place : goal.invariant-loop-place
invariant-loop-place l =
    (l.share ≡ total_below (change_at l.changes) l.place)
    × (pos 0 ≤ℤ l.share)
    × (l.share ≤ℤ pos (most_share l.marks))
    × (train_refusal l.marks l.section l.train l.place l.changes ≡ None)
