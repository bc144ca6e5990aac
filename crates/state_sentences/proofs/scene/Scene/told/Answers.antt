use Rattle.rail_model.proofs.Counts.{told_is_ask}
use Rattle.state_sentences.proofs.scene.Scene.told.Goals as goal

pub returns-clause-computed : goal.returns-clause-computed
returns-clause-computed c =
    let scene = c.args.self.now in
    told_is_ask scene.table.now scene.state.now c.args.train c.can_move.result scene.formed scene.legal c.requires c.can_move.ensures.answer
