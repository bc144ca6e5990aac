use Rattle.std.proofs.Common.{sym, ◌∙◌, arith}
use Rattle.live_yard.proofs.Filling.{filled_as, filled_move, filled_other}
use Rattle.live_yard.proofs.passed_places.fill_row.Goals.{then-is_move_of+else-at-eq0, else-is_move_of}
use Rattle.live_yard.proofs.passed_places.fill_row.Goals as goal

pub loop-left-preserved : goal.loop-left-preserved
loop-left-preserved c =
    let lines = c.args.lines.now in
    let train = c.args.train in
    let now = c.args.now in
    let left = c.loop-left.left in
    let is = c.loop-left.invariant in
    elim c.if-is_move_of.branch [
      | then-is_move_of+else-at-eq0 w ↦
          filled_as lines _ _ _ train now _ _ _ w.ways-is w.at-is
          (filled_move lines _ _ train now _ left _ is c.loop-left-test.true
          (sym c.is_move_of.ensures ∙ w.if-is_move_of.true) w.if-at-eq0.false c.requires.place (omega arith))
      | else-is_move_of w ↦
          filled_as lines _ _ _ train now _ _ _ w.ways-is w.at-is
          (filled_other lines _ _ train now _ left _ is c.loop-left-test.true
          (sym c.is_move_of.ensures ∙ w.if-is_move_of.false))
    ]
