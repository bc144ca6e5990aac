use Rattle.std.proofs.Common.{◌≡◌, ◌-◌, ◌<◌}
use Rattle.std.specs.Prelude.{All}
use Rattle.rail_model.specs.Table.{trains}
use Rattle.section_repair.specs.Core.{widened_times, closure}
use Rattle.section_repair.proofs.cores.closure.Given as goal

abbrev pub invariant-loop-turn : goal.invariant-loop-turn
invariant-loop-turn l = record {
  leads : widened_times l.table l.state (trains l.table - l._turn) l.group ≡ closure l.table l.state l.train;
  below : All (λ i. i < trains l.table) l.group;
}
