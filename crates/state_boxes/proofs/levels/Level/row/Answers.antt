use Rattle.std.proofs.Common.{◌∙◌, [], get_or, ap, sym, arith}
use Rattle.state_boxes.specs.Extremes.{Level}
use Rattle.state_boxes.proofs.Cells.{row_at, row_of}
use Rattle.state_boxes.proofs.levels.Level.row.Goals as goal

pub row-requires-clause-within : goal.row-requires-clause-within
row-requires-clause-within c =
    let level = c.self.inside in
    let row = row_of c.args.place level.rows level.sections level.cells _ (ap (λ (l : Level). l.rows) c.self.view_is) c.self.invariant c.requires in
    omega (arith, row.ends)

pub returns : goal.returns
returns c =
    let level = c.self.inside in
    let row = row_of c.args.place level.rows level.sections level.cells _ (ap (λ (l : Level). l.rows) c.self.view_is) c.self.invariant c.requires in
    c.row.ensures ∙ sym (row_at level.rows level.sections level.cells c.args.place row.there)
    ∙ ap (λ (l : Level). get_or l.rows c.args.place []) c.self.view_is
