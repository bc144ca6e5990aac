use Rattle.std.proofs.Common.{List, length, ap, sym, ◌∙◌, subst, arith}
use Rattle.std.proofs.lemmas.Nat.{mul-le}
use Rattle.state_boxes.specs.declared.extremes.Extremes.{Extremes}
use Rattle.state_boxes.specs.Extremes.{Level, IsLevel}
use Rattle.state_boxes.proofs.Cells.{level_many, cut_many, level_next}
use Rattle.state_boxes.proofs.levels.next_level.Goals as goal

pub overflow_sub-rows : goal.overflow_sub-rows
overflow_sub-rows c =
    let level = subst (IsLevel c.args.table.now c.args.train) (sym c.level.view_is) c.requires.level in
    let many = level_many c.args.table.now c.args.train _ _ _ _ level in
    let width = ap (λ (l : Level). l.width) c.level.view_is in
    omega (arith, many, width, c.requires.fits)

pub row-second-requires-clause-order : goal.row-second-requires-clause-order
row-second-requires-clause-order c =
    let level = subst (IsLevel c.args.table.now c.args.train) (sym c.level.view_is) c.requires.level in
    let many = level_many c.args.table.now c.args.train _ _ _ _ level in
    let width = ap (λ (l : Level). l.width) c.level.view_is in
    mul-le _ _ _ _ (omega (arith, many, width, c.requires.fits)) (omega arith)

pub joined-requires : goal.joined-requires
joined-requires c =
    let level = subst (IsLevel c.args.table.now c.args.train) (sym c.level.view_is) c.requires.level in
    let many = level_many c.args.table.now c.args.train _ _ _ _ level in
    let width = ap (λ (l : Level). l.width) c.level.view_is in
    ap (λ (cells : List Extremes). length cells) c.row-second.ensures
    ∙ cut_many _ _ _ c.level.inside.cells (omega (arith, many, width, c.requires.fits)) c.level.invariant
    ∙ sym (ap (λ (cells : List Extremes). length cells) c.row-first.ensures)

pub returns-clause-level : goal.returns-clause-level
returns-clause-level c =
    let level = subst (IsLevel c.args.table.now c.args.train) (sym c.level.view_is) c.requires.level in
    let width = ap (λ (l : Level). l.width) c.level.view_is in
    level_next c.args.table.now c.args.train _ _ _ _ _ _ _ c.level.invariant level
    (omega (arith, width, c.requires.fits)) c.row-first.ensures c.row-second.ensures c.in_ok-cells.ensures
