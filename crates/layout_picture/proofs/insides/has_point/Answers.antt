use Rattle.std.proofs.Common.{◌∙◌, sym}
use Rattle.layout_picture.proofs.Marked.{marked_within, marked_beyond}
use Rattle.layout_picture.proofs.insides.has_point.Goals as goal

pub returns-then-points-point : goal.returns-then-points-point
returns-then-points-point c = sym (marked_beyond c.args.table.now c.args.points c.args.section c.args.point c.if-points-point.true)

pub returns : goal.returns
returns c = c.is_inside.ensures ∙ sym (marked_within c.args.table.now c.args.points c.args.section c.args.point c.if-points-point.false)
