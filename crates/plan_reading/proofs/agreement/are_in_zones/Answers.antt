use Rattle.std.proofs.Common.{◌∙◌, ap, codes}
use Rattle.toml.proofs.Views.{table_get}
use Rattle.plan_reading.specs.Zoned.{are_zoned}
use Rattle.plan_reading.proofs.agreement.are_in_zones.Goals as goal

pub returns : goal.returns
returns c =
    let zones = table_get c.get.result (codes "zones") c.args.text.now.entries c.get.ensures.value in
    c.are_zoned.ensures ∙ ap (λ z. are_zoned z c.args.points.now) zones
