use Rattle.std.proofs.Common.{◌≡◌, ◌++◌, map}
use Rattle.rail_model.specs.Checks.{below}
use Rattle.ring_sections.proofs.standing.add_pairs.Given as goal

abbrev pub invariant-loop-place : goal.invariant-loop-place
invariant-loop-place l = l.pairs.items ≡ l.initial.pairs.items ++ map (λ k. (l.train, k)) (below l.place)
