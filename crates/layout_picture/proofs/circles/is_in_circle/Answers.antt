use Rattle.std.proofs.Common.{◌∙◌, sym, ap, arith}
use Rattle.std.specs.Prelude.{Some}
use Rattle.layout_picture.proofs.Coming.{comes_on, comes_home, comes_to_end, comes_too_far, decides_no, decides_yes}
use Rattle.layout_picture.proofs.circles.is_in_circle.Goals as goal

pub returns-in-None : goal.returns-in-None
returns-in-None c =
    let scene = c.args.scene.now in
    decides_no
    (comes_to_end scene.table.now scene.state.now c.args.train c.loop.counter c.loop.last c.loop.invariant (sym c.in-None.ensures.waits))

pub returns-then-last-train : goal.returns-then-last-train
returns-then-last-train c =
    let scene = c.args.scene.now in
    decides_yes
    (comes_home scene.table.now scene.state.now c.args.train c.loop.counter c.loop.last c.loop.invariant (omega arith)
    (sym c.in-Some.ensures.waits ∙ ap Some c.if-last-train.true))

pub loop-preserved : goal.loop-preserved
loop-preserved c =
    let scene = c.args.scene.now in
    comes_on scene.table.now scene.state.now c.args.train c.loop.counter c.loop.last c.loop.invariant c.in-Some.by (sym c.in-Some.ensures.waits)
    c.in-Some.ensures.within c.if-last-train.false

pub returns : goal.returns
returns c =
    let scene = c.args.scene.now in
    decides_no (comes_too_far scene.table.now scene.state.now c.args.train c.loop.counter c.loop.last c.loop.invariant (omega arith))
