use Rattle.std.proofs.Common.{◌≡◌, map, take}
use Rattle.document_json.proofs.members.exits.Given as goal

abbrev pub invariant-loop-mission : goal.invariant-loop-mission
invariant-loop-mission l = l.found.items ≡ map (λ m. m.exits) (take l.mission-index l.missions)
