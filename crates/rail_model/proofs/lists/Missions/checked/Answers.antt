use Rattle.std.proofs.Common.{◌∙◌, sym, ap, refl}
use Rattle.std.proofs.lemmas.Bool.Decides.{not_from_Decides}
use Rattle.rail_model.specs.Checks.{are_missions}
use Rattle.rail_model.proofs.MissionTests.{Decides-missions, missions_pass}
use Rattle.rail_model.proofs.lists.Missions.checked.Goals as goal

pub returns-then-not-are_missions : goal.returns-then-not-are_missions
returns-then-not-are_missions c =
    not_from_Decides (are_missions c.args.items.items) (Decides-missions c.args.items.items)
    (ap are_missions (sym c.deref.ensures.value) ∙ sym c.are_missions.ensures ∙ c.if-not-are_missions.true)

pub invariant_of-result : goal.invariant_of-result
invariant_of-result c =
    missions_pass c.args.items.items (ap are_missions (sym c.deref.ensures.value) ∙ sym c.are_missions.ensures ∙ c.if-not-are_missions.false)

pub returns : goal.returns
returns c =
    (refl, missions_pass c.args.items.items (ap are_missions (sym c.deref.ensures.value) ∙ sym c.are_missions.ensures ∙ c.if-not-are_missions.false))
