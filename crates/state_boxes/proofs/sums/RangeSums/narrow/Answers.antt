use Rattle.std.proofs.Common.{rules, ◌-◌, ◌<◌, List, sym, subst}
use Rattle.rail_model.specs.Certificate.{Range}
use Rattle.state_boxes.specs.Extremes.{IsRow}
use Rattle.state_boxes.specs.Sums.{AreSums}
use Rattle.state_boxes.proofs.Shifted.{few_cells, small_sums, narrowed}
use Rattle.state_boxes.proofs.Summed.{some_span}
use Rattle.state_boxes.proofs.sums.RangeSums.narrow.Goals as goal

pub shift-requires-clause-old_few : goal.shift-requires-clause-old_few
shift-requires-clause-old_few c =
    let T = c.args.table.now in
    let i = c.args.train in
    let sums = subst (AreSums T) (sym c.self.view_is) c.requires.sums in
    let formed = (c.requires.shares.1 i c.requires.train).formed in
    let span = some_span T c.self.inside.ranges i c.span.result sums.boxed c.requires.train c.span.ensures in
    λ s lt. few_cells T i s _ _ _ formed c.requires.train span.0 span.1 c.row-old.ensures (subst (λ n. s < n) sums.each_sum.0 lt)

pub shift-requires-clause-new_few : goal.shift-requires-clause-new_few
shift-requires-clause-new_few c =
    let T = c.args.table.now in
    let i = c.args.train in
    let sums = subst (AreSums T) (sym c.self.view_is) c.requires.sums in
    let formed = (c.requires.shares.1 i c.requires.train).formed in
    λ s lt. few_cells T i s _ _ _ formed c.requires.train c.requires.some c.requires.in_range c.row-new.ensures (subst (λ n. s < n) sums.each_sum.0 lt)

pub shift-requires-clause-small : goal.shift-requires-clause-small
shift-requires-clause-small c =
    let T = c.args.table.now in
    let sums = subst (AreSums T) (sym c.self.view_is) c.requires.sums in
    let formed = (c.requires.shares.1 c.args.train c.requires.train).formed in
    small_sums T _ _ formed sums.boxed sums.each_sum

pub returns-clause-sums : goal.returns-clause-sums
returns-clause-sums c =
    let T = c.args.table.now in
    let i = c.args.train in
    let B = c.self.inside.ranges in
    let r = c.args.span in
    let sums = subst (AreSums T) (sym c.self.view_is) c.requires.sums in
    let old = subst (λ (q : Range). IsRow T i q.lo (q.hi - q.lo) c.row-old.result) c.span.ensures c.row-old.ensures in
    subst (λ (R : List Range). AreSums T (record { ranges = R; sums = c.shift.new.self })) (sym c.set.ensures)
    (record {
      boxed = search rules;
      each_sum = narrowed T B i r _ _ _ _ sums.boxed c.requires.train sums.each_sum old c.row-new.ensures c.shift.ensures;
    })
