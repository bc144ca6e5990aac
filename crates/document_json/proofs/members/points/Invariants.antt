use Rattle.std.proofs.Common.{◌≡◌, map, take}
use Rattle.document_json.specs.Written.{point_pair, point_seen}
use Rattle.document_json.proofs.members.points.Given as goal

abbrev pub invariant-loop-point : goal.invariant-loop-point
invariant-loop-point l = map point_seen l.found.items ≡ map point_pair (take l.point-index l.points)
