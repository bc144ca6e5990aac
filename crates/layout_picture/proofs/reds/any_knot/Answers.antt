use Rattle.std.proofs.Common.{◌∙◌, ap, subst, sym}
use Rattle.std.proofs.lemmas.Option.{MatchOption-at_none, MatchOption-at_some}
use Rattle.rail_model.specs.Checks.{below}
use Rattle.state_sentences.specs.Knot.{IsKnotOrNone}
use Rattle.state_sentences.proofs.ToldKnots.{knot_from, no_knot}
use Rattle.layout_picture.proofs.reds.any_knot.Goals as goal

pub returns-in-Some : goal.returns-in-Some
returns-in-Some c =
    knot_from c.args.scene.now.table.now c.args.scene.now.state.now c.in-Some.knot
    (MatchOption-at_some _ _ _ c.in-Some.is c.in_ok-knot.ensures).0

pub returns-in-None : goal.returns-in-None
returns-in-None c =
    let T = c.args.scene.now.table.now in
    let p = c.args.scene.now.state.now in
    subst (IsKnotOrNone T p) (sym c.nobody.ensures)
    (no_knot T p c.in_ok-all.all (c.in_ok-all.ensures ∙ ap below c.trains.ensures) (MatchOption-at_none _ _ c.in-None.is c.in_ok-knot.ensures))
