use Rattle.std.proofs.Common.{◌≡◌, option_map}
use Rattle.toml.specs.View.{view}
use Rattle.plan_reading.specs.Zoned.{first_zone, list_of, lists}
use Rattle.plan_reading.proofs.zoned.zone_of.Given as goal

abbrev pub invariant-loop-zone : goal.invariant-loop-zone
invariant-loop-zone l =
    first_zone 1 (λ zone. lists (list_of (option_map (λ v. view v.now) l.zones) zone) l.point)
    ≡ first_zone l.zone (λ zone. lists (list_of (option_map (λ v. view v.now) l.zones) zone) l.point)
