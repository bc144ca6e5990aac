use Rattle.std.proofs.Common.{◌≡◌, map, take}
use Rattle.document_json.specs.Written.{link_pair, link_seen}
use Rattle.document_json.proofs.members.links.Given as goal

abbrev pub invariant-loop-link : goal.invariant-loop-link
invariant-loop-link l = map link_seen l.found.items ≡ map (link_pair l.names) (take l.link-index l.links)
