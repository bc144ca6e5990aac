use Rattle.std.proofs.Common.{◌≡◌, ◌∙◌, ℤ, List, length, ap, sym, arith}
use Rattle.std.specs.List.{slice_range}
use Rattle.state_boxes.specs.declared.extremes.Extremes.{Extremes}
use Rattle.state_boxes.specs.Cells.{cells_of}
use Rattle.state_boxes.proofs.Halved.{list_many, range-zip2}
use Rattle.state_boxes.proofs.share_rows.Cells.row.Goals as goal

pub slice_bounds-result-end : goal.slice_bounds-result-end
slice_bounds-result-end c =
    let same : length c.deref.result.now ≡ length c.self.inside.least.items = ap (λ (xs : List ℤ). length xs) c.deref.ensures.value in
    omega (arith, c.requires.order, c.requires.within, same, list_many _ _ _ c.self.view_is c.self.invariant)

pub slice_bounds-result-end-2 : goal.slice_bounds-result-end-2
slice_bounds-result-end-2 c =
    let same : length c.deref-2.result.now ≡ length c.self.inside.greatest.items = ap (λ (xs : List ℤ). length xs) c.deref-2.ensures.value in
    omega (arith, c.requires.order, c.requires.within, same, c.self.invariant, list_many _ _ _ c.self.view_is c.self.invariant)

pub returns : goal.returns
returns c =
    let from = c.args.start in
    let to = c.args.end in
    (λ i. cells_of (slice_range (c.deref.ensures.value i) from to) (slice_range (c.deref-2.ensures.value i) from to))
    ∙ sym (range-zip2 _ from to c.self.inside.least.items c.self.inside.greatest.items)
    ∙ ap (λ (cells : List Extremes). slice_range cells from to) c.self.view_is
