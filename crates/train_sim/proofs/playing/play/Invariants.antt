use Rattle.std.proofs.Common.{◌≡◌}
use Rattle.rail_model.specs.Table.{IsTable}
use Rattle.rail_model.specs.Yard.{in_force, IsNextDue}
use Rattle.plain_yard.proofs.Turns.{left}
use Rattle.train_sim.specs.Steps.{IsTimedSoFar, Leads}
use Rattle.train_sim.proofs.playing.play.Given as goal

abbrev pub invariant-loop-train : goal.invariant-loop-train
invariant-loop-train g l = record {
  kept : IsTimedSoFar l.run.tables l.run.yard l.watch l.run.lines;
  tables : l.run.tables ≡ l.fn.run.tables;
  formed : IsTable (in_force l.run.tables l.run.yard);
  undue : IsNextDue l.run.tables l.run.yard → ⊥;
  leads : Leads l.fn.run.tables l.times l.fn.run.yard l.fn.watch l.fn.run.lines l.run.yard l.watch l.run.lines;
}

abbrev pub decreases-loop-train : goal.decreases-loop-train
decreases-loop-train g l = left l.run.tables l.run.yard 0
