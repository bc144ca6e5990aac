use Rattle.std.proofs.Common.{◌≡◌, map, take, string_bytes}
use Rattle.rail_model.specs.Names.{point_name}
use Rattle.document_json.proofs.members.way.Given as goal

abbrev pub invariant-loop-point : goal.invariant-loop-point
invariant-loop-point l = map string_bytes l.found.items ≡ map (point_name l.names) (take l.point-index l.point-items)
