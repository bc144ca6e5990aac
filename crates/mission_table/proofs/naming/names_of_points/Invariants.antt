use Rattle.std.proofs.Common.{◌≡◌, map, take, string_bytes}
use Rattle.rail_model.specs.Layout.{Point}
use Rattle.mission_table.proofs.naming.names_of_points.Given as goal

abbrev pub invariant-loop-point : goal.invariant-loop-point
invariant-loop-point l = map string_bytes l.names.items ≡ map (λ (p : Point). p.name) (take l.point-index l.points)
