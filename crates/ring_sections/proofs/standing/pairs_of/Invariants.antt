use Rattle.std.proofs.Common.{◌≡◌}
use Rattle.std.specs.Prelude.{flat_map}
use Rattle.rail_model.specs.Table.{mission}
use Rattle.rail_model.specs.Checks.{below}
use Rattle.forbidden_states.specs.Forbid.{unmarked}
use Rattle.ring_sections.specs.Ring.{train_pairs}
use Rattle.ring_sections.proofs.standing.pairs_of.Given as goal

abbrev pub invariant-loop-train : goal.invariant-loop-train
invariant-loop-train l = l.pairs.items ≡ flat_map (λ i. train_pairs i (mission (unmarked l.missions) i)) (below l.train)
