use Rattle.zone_machine.proofs.Prelude.{◌≡◌, ◌<◌, ℕ, List, true, sym, ap, ◌∙◌, subst, IsStrictlyIncreasing, has, Footprint}
use Rattle.zone_machine.proofs.Needing.{driver_rising, driver_low}
use Rattle.zone_machine.proofs.machine.Core.next_by.Goals as goal

pub zone_step-requires-clause-needed : goal.zone_step-requires-clause-needed
zone_step-requires-clause-needed g c =
    let zones = c.zones.ensures ∙ ap (λ (f : Footprint). f.zones) c.requires.needs in
    subst IsStrictlyIncreasing (sym zones) (driver_rising _ c.args.self.now c.self.invariant.0 c.self.view_is c.args.number c.args.row.now c.requires.there c.requires.train c.args.table c.requires.glance)

pub zone_step-requires-clause-low : goal.zone_step-requires-clause-low
zone_step-requires-clause-low g c =
    let zones = c.zones.ensures ∙ ap (λ (f : Footprint). f.zones) c.requires.needs in
    subst (λ (l : List ℕ). (z : ℕ) → has z l ≡ true → z < 16) (sym zones) (driver_low _ c.args.self.now c.self.invariant.0 c.self.view_is c.args.number c.args.row.now c.requires.there c.requires.train c.args.table c.requires.glance)
