use Rattle.std.specs.List.{AllZip}
use Rattle.plan_crossed.specs.Crossed.{AddsSections}
use Rattle.plan_crossed.proofs.adding.all_crossed.Given as goal

abbrev pub invariant-loop-table : goal.invariant-loop-table
invariant-loop-table l = AllZip (AddsSections l.crossings l.plan.points.items) l.yielded l.found.items
