use Rattle.std.proofs.Common.{◌≡◌, ◌++◌, map, take}
use Rattle.plan_crossings.specs.Shapes.{road}
use Rattle.plan_crossings.proofs.shapes.add_roads.Given as goal

abbrev pub invariant-loop-road : goal.invariant-loop-road
invariant-loop-road l = l.ways.items ≡ l.initial.ways.items ++ map (road l.point l.lead) (take l.road-index l.roads)
