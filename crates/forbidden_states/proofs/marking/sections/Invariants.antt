use Rattle.std.proofs.Common.{◌≡◌, map, take}
use Rattle.forbidden_states.specs.Forbid.{forbidding}
use Rattle.forbidden_states.proofs.marking.sections.Given as goal

abbrev pub invariant-loop-stays : goal.invariant-loop-stays
invariant-loop-stays l = l.sections.items ≡ map (forbidding l.missions) (take l.stays-index l.all)
