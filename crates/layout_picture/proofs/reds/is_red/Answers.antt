use Rattle.std.proofs.Common.{ap, inl, sym}
use Rattle.std.specs.Prelude.{◌||◌}
use Rattle.std.proofs.lemmas.Bool.Decides.{Decides-at}
use Rattle.layout_picture.proofs.Coming.{decides_yes}
use Rattle.layout_picture.proofs.RedTrains.{decides_red}
use Rattle.layout_picture.proofs.reds.is_red.Goals as goal

pub returns-then-is_in_circle : goal.returns-then-is_in_circle
returns-then-is_in_circle c = decides_yes (inl (c.is_in_circle.ensures.0 c.if-is_in_circle.true))

pub returns : goal.returns
returns c =
    let scene = c.args.scene.now in
    Decides-at _ _ (ap (λ b. b || c.has.result) (sym c.if-is_in_circle.false))
    (decides_red scene.table.now scene.state.now c.args.knot.now c.args.train c.is_in_circle.result c.has.result c.is_in_circle.ensures c.has.ensures)
