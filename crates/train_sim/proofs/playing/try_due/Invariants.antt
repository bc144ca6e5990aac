use Rattle.std.proofs.Common.{◌≡◌, ◌⊎◌, ℕ, ◌-◌, ◌<◌, List, length}
use Rattle.train_sim.specs.Steps.{IsTimedSoFar, Leads}
use Rattle.train_sim.proofs.playing.try_due.Given as goal

abbrev pub invariant-loop : goal.invariant-loop
invariant-loop g l = record {
  kept : IsTimedSoFar l.run.tables l.run.yard l.watch l.run.lines;
  tables : l.run.tables ≡ l.fn.run.tables;
  moved : (l.run.yard ≡ l.fn.run.yard) ⊎ (l.fn.run.yard.tried < l.run.yard.tried);
  leads : (times : List (List (List ℕ))) → Leads l.fn.run.tables times l.fn.run.yard l.fn.watch l.fn.run.lines l.run.yard l.watch l.run.lines;
}

abbrev pub decreases-loop : goal.decreases-loop
decreases-loop g l = length l.run.tables - l.run.yard.tried
