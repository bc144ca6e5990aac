use Rattle.std.proofs.Common.{◌≡◌, ◌-◌}
use Rattle.rail_model.specs.Table.{share}
use Rattle.state_boxes.specs.Extremes.{IsExtremes}
use Rattle.state_boxes.proofs.shares.extremes_in.Given as goal

abbrev pub invariant-loop-place : goal.invariant-loop-place
invariant-loop-place l = record {
  share_is : l.share ≡ share l.table l.train l.section l.place;
  extremes : IsExtremes (share l.table l.train l.section) l.fn.span.lo (l.place - l.fn.span.lo) l.extremes;
}
