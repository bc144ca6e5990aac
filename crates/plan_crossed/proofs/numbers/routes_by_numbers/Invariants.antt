use Rattle.std.proofs.Common.{◌≡◌, map}
use Rattle.plan_crossings.specs.Crossings.{below}
use Rattle.plan_crossed.specs.Numbered.{train_by_numbers}
use Rattle.plan_crossed.proofs.numbers.routes_by_numbers.Given as goal

abbrev pub invariant-loop-train : goal.invariant-loop-train
invariant-loop-train l = l.found.items ≡ map (train_by_numbers l.points l.table) (below l.train)
