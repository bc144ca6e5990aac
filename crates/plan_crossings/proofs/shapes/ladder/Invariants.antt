use Rattle.std.proofs.Common.{◌≡◌, map, take}
use Rattle.std.specs.List.{flat_map}
use Rattle.plan_crossings.specs.Shapes.{road}
use Rattle.plan_crossings.proofs.shapes.ladder.Given as goal

abbrev pub invariant-loop-lead : goal.invariant-loop-lead
invariant-loop-lead l = l.ways.items ≡ flat_map (λ lead. map (road l.point lead) l.roads) (take l.lead-index l.leads)
