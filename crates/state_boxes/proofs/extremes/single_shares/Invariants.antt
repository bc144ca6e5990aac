use Rattle.std.proofs.Common.{◌≡◌, ◌+◌, ◌*◌, ◌≤◌, length, vec_capacity}
use Rattle.rail_model.specs.Table.{last}
use Rattle.state_boxes.specs.Cells.{AreSingle}
use Rattle.state_boxes.proofs.extremes.single_shares.Given as goal

abbrev pub invariant-loop-place : goal.invariant-loop-place
invariant-loop-place l = record {
  single : AreSingle l.table l.train l.shares.items;
  many : length l.shares.items ≡ l.place * length l.table.sections;
  room : (last l.table l.train + 1) * length l.table.sections ≤ vec_capacity l.shares;
}
