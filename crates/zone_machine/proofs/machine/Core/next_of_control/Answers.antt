use Rattle.zone_machine.proofs.Prelude.{◌≡◌, ◌<◌, ℕ, List, true, sym, ap, ◌∙◌, subst, IsStrictlyIncreasing, below, has, CoreValue}
use Rattle.zone_machine.proofs.Needing.{control_rising, control_low}
use Rattle.zone_machine.proofs.machine.Core.next_of_control.Goals as goal

pub zone_step-requires-clause-needed : goal.zone_step-requires-clause-needed
zone_step-requires-clause-needed g c =
    let zones = c.all-needed.ensures ∙ ap below (c.zones_of.ensures.count ∙ ap (λ (v : CoreValue). v.setup.layout.zones) c.self.view_is) in
    subst IsStrictlyIncreasing (sym zones) (control_rising _ c.args.self.now c.self.invariant.0 c.self.view_is)

pub zone_step-requires-clause-low : goal.zone_step-requires-clause-low
zone_step-requires-clause-low g c =
    let zones = c.all-needed.ensures ∙ ap below (c.zones_of.ensures.count ∙ ap (λ (v : CoreValue). v.setup.layout.zones) c.self.view_is) in
    subst (λ (l : List ℕ). (z : ℕ) → has z l ≡ true → z < 16) (sym zones) (control_low _ c.args.self.now c.self.invariant.0 c.self.view_is)
