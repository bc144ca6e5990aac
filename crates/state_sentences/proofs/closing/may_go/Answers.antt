use Rattle.std.proofs.Common.{below_more}
use Rattle.state_sentences.proofs.Verdicts.{stays}
use Rattle.state_sentences.proofs.closing.may_go.Goals as goal

pub loop-train-preserved : goal.loop-train-preserved
loop-train-preserved c =
    let scene = c.args.scene.now in
    below_more _ _ c.loop-train.invariant
    (stays scene.table.now scene.state.now c.loop-train.train c.told.result scene.legal c.told.ensures.answers c.in_default.not-Yes)
