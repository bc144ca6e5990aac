use Rattle.std.proofs.Common.{ℕ, ◌+◌, ◌*◌, ◌∙◌, List, [], refl, sym, ap, subst, arith, length}
use Rattle.state_boxes.specs.declared.extremes.Extremes.{Extremes}
use Rattle.state_boxes.specs.Cells.{rows_of}
use Rattle.state_boxes.specs.Each.{IsEach}
use Rattle.state_boxes.specs.Extremes.{IsRow}
use Rattle.state_boxes.proofs.Cells.{single_rows}
use Rattle.state_boxes.proofs.Halved.{list_many}
use Rattle.state_boxes.proofs.levels.first_level.Goals as goal

pub invariant_of-result : goal.invariant_of-result
invariant_of-result c =
    let shares = c.in_ok-shares.shares.items in
    ap (λ (cells : List Extremes). length cells) c.in_ok-cells.ensures ∙ sym (list_many shares shares _ refl refl) ∙ c.in_ok-shares.ensures.many
    ∙ (λ i. (sym c.last_of.ensures.last i + 1) * sym c.sections_of.ensures.count i)

pub returns-clause-level : goal.returns-clause-level
returns-clause-level c =
    let T = c.args.table.now in
    let i = c.args.train in
    let shares = c.in_ok-shares.shares.items in
    let rows = c.last_of.result + 1 in
    let last_is = c.last_of.ensures.last in
    let many = c.in_ok-shares.ensures.many ∙ ap (λ (n : ℕ). (n + 1) * length T.sections) (sym last_is) in
    record {
      some_places = omega arith;
      fits = omega arith;
      each_row = subst (λ (n : ℕ). IsEach (λ lo row. IsRow T i lo 0 row) n [] (rows_of rows c.sections_of.result c.in_ok-cells.cells)) (omega (arith, last_is))
          (subst (λ (n : ℕ). IsEach (λ lo row. IsRow T i lo 0 row) rows [] (rows_of rows n c.in_ok-cells.cells)) (sym c.sections_of.ensures.count)
          (subst (λ (cells : List Extremes). IsEach (λ lo row. IsRow T i lo 0 row) rows [] (rows_of rows (length T.sections) cells)) (sym c.in_ok-cells.ensures)
          (single_rows T i rows shares c.in_ok-shares.ensures.single many)));
    }
