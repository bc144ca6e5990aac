use Rattle.std.proofs.Common.{◌≡◌, pos, ◌≤◌, vec_capacity}
use Rattle.rail_model.specs.Certificate.{least_count}
use Rattle.state_boxes.specs.Each.{IsEach}
use Rattle.state_boxes.specs.Sums.{greatest_count}
use Rattle.state_boxes.proofs.sums.all_sums.Given as goal

abbrev pub invariant-loop-section : goal.invariant-loop-section
invariant-loop-section l = record {
  least_room : l.sections ≤ vec_capacity l.least;
  greatest_room : l.sections ≤ vec_capacity l.greatest;
  least : IsEach (λ s x. x ≡ least_count l.table l.ranges s) l.section (pos 0) l.least.items;
  greatest : IsEach (λ s x. x ≡ greatest_count l.table l.ranges s) l.section (pos 0) l.greatest.items;
}
