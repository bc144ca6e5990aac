use Rattle.std.proofs.Common.{◌≡◌, take}
use Rattle.document_json.proofs.members.times.Given as goal

abbrev pub invariant-loop-steps : goal.invariant-loop-steps
invariant-loop-steps l = l.found.items ≡ take l.steps-index l.times
