use Rattle.std.proofs.Common.{◌≡◌, map}
use Rattle.rail_model.specs.Table.{mission}
use Rattle.rail_model.specs.Checks.{below}
use Rattle.forbidden_states.specs.Forbid.{unmarked, stay_of, changes_of}
use Rattle.forbidden_states.proofs.marking.all_changes.Given as goal

abbrev pub invariant-loop-train : goal.invariant-loop-train
invariant-loop-train l = l.changes.items ≡ map (λ i. changes_of (mission (unmarked l.missions) i) (stay_of l.stays i)) (below l.train)
