use Rattle.std.proofs.Common.{◌≡◌}
use Rattle.std.specs.Prelude.{filter}
use Rattle.rail_model.specs.Checks.{below}
use Rattle.section_repair.specs.Core.{is_drawn_in}
use Rattle.section_repair.proofs.cores.widened.Given as goal

abbrev pub invariant-loop-train : goal.invariant-loop-train
invariant-loop-train l = l.members.items ≡ filter (is_drawn_in l.table l.state l.group) (below l.train)
