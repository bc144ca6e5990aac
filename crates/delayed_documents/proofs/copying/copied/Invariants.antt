use Rattle.std.proofs.Common.{◌≡◌, take}
use Rattle.delayed_documents.proofs.copying.copied.Given as goal

abbrev pub invariant-loop-steps : goal.invariant-loop-steps
invariant-loop-steps l = l.found.items ≡ take l.steps-index l.times
