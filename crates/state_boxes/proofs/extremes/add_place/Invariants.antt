use Rattle.std.proofs.Common.{◌≡◌, ◌+◌, ◌*◌, length, vec_capacity}
use Rattle.state_boxes.specs.Cells.{AreSingle}
use Rattle.state_boxes.proofs.extremes.add_place.Given as goal

abbrev pub invariant-loop-section : goal.invariant-loop-section
invariant-loop-section l = record {
  single : AreSingle l.table l.train l.shares.items;
  many : length l.shares.items ≡ l.place * length l.table.sections + l.section;
  room : vec_capacity l.shares ≡ vec_capacity l.fn.shares;
}
