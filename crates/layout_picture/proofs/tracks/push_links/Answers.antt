use Rattle.std.proofs.Common.{◌∙◌, [], ap, refl}
use Rattle.rail_model.specs.Layout.{Link}
use Rattle.layout_picture.specs.Drawn.{AreLinkLines}
use Rattle.layout_picture.proofs.Adding.{adds_none, next_line}
use Rattle.layout_picture.proofs.tracks.push_links.Goals as goal

pub loop-link-init : goal.loop-link-init
loop-link-init c = adds_none (AreLinkLines c.args.view.now.frame.now.spots.items []) _ (record { ways = []; ends = refl; lines = refl })

pub loop-link-preserved : goal.loop-link-preserved
loop-link-preserved c =
    let link = c.link-item.result in
    next_line c.args.view.now.frame.now.spots.items c.args.links.now c.loop-link.link-index link _ _ _ c.loop-link.shapes.items _
    c.loop-link-test.true (c.first.ensures ∙ ap (λ (k : Link). k.first) c.link-item.is)
    (c.second.ensures ∙ ap (λ (k : Link). k.second) c.link-item.is) c.loop-link.invariant c.in_ok-push_line.ensures
