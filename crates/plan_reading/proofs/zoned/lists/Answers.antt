use Rattle.std.proofs.Common.{◌∙◌, ap}
use Rattle.plan_reading.specs.Zoned.{lists}
use Rattle.plan_reading.proofs.zoned.lists.Goals as goal

pub returns-in-Some : goal.returns-in-Some
returns-in-Some c = c.has_name.ensures ∙ ap (λ list. lists list c.args.point.now) c.in-Some.ensures
