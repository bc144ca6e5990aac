use Rattle.std.proofs.Common.{◌≡◌, map, take}
use Rattle.plan_document.specs.Written.{section_of}
use Rattle.plan_document.proofs.members.sections.Given as goal

abbrev pub invariant-loop-plan : goal.invariant-loop-plan
invariant-loop-plan l = l.found.items ≡ map section_of (take l.plan-index l.plans)
