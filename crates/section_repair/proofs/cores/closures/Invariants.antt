use Rattle.std.proofs.Common.{◌≡◌, map}
use Rattle.std.specs.Prelude.{filter}
use Rattle.rail_model.specs.Checks.{below}
use Rattle.section_repair.specs.Core.{is_unfinished, closure}
use Rattle.section_repair.proofs.cores.closures.Given as goal

abbrev pub invariant-loop-train : goal.invariant-loop-train
invariant-loop-train l = l.groups.items ≡ map (closure l.table l.state) (filter (is_unfinished l.table l.state) (below l.train))
