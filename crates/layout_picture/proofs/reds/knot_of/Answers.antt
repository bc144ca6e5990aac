use Rattle.std.proofs.lemmas.Option.{MatchOption-at_some}
use Rattle.state_sentences.proofs.ToldKnots.{knot_from}
use Rattle.layout_picture.proofs.reds.knot_of.Goals as goal

pub returns-in-Some : goal.returns-in-Some
returns-in-Some c =
    knot_from c.args.scene.now.table.now c.args.scene.now.state.now c.in-Some.knot
    (MatchOption-at_some _ _ _ c.in-Some.is c.in_ok-knot.ensures).0
