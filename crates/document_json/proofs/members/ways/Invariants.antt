use Rattle.std.proofs.Common.{◌≡◌, map, take}
use Rattle.document_shapes.specs.Seen.{names_seen}
use Rattle.document_json.specs.Members.{way_names}
use Rattle.document_json.proofs.members.ways.Given as goal

abbrev pub invariant-loop-mission : goal.invariant-loop-mission
invariant-loop-mission l = map names_seen l.found.items ≡ map (way_names l.names) (take l.mission-index l.missions)
