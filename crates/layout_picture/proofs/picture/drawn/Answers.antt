use Rattle.std.proofs.Common.{sym, subst}
use Rattle.std.proofs.lemmas.Result.{IfOk-weaker}
use Rattle.svg_text.specs.Tree.{Picture}
use Rattle.layout_picture.specs.Drawn.{IsDrawn}
use Rattle.layout_picture.proofs.picture.drawn.Goals as goal

pub returns : goal.returns
returns c =
    let view = c.args.view.now in
    let shows = λ (picture : Picture). IsDrawn view.layout.now view.sections.now view.scene.now.table.now view.scene.now.state.now picture.width picture.height picture.groups in
    IfOk-weaker c.new.result _ shows
    (λ picture made. subst shows (sym made) (record {
      spots = view.frame.now.spots.items;
      across = view.frame.now.grid.across;
      knot = view.knot.now;
      wide = c.requires.wide;
      high = c.requires.high;
      spot_for_each = c.requires.each;
      is_knot = c.requires.knot;
      layered = c.in_ok-groups.ensures;
    }))
    c.new.ensures
