use Rattle.std.proofs.Common.{◌≡◌, map}
use Rattle.rail_model.specs.Checks.{below, ask}
use Rattle.section_repair.proofs.cores.asks.Given as goal

abbrev pub invariant-loop-train : goal.invariant-loop-train
invariant-loop-train l = l.asks.items ≡ map (ask l.table l.state) (below l.train)
