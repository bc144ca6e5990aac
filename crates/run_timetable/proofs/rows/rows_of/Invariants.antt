use Rattle.std.proofs.Common.{◌≡◌, ◌++◌, drop}
use Rattle.run_timetable.specs.Timetable.{rows_after, beginning}
use Rattle.run_timetable.proofs.rows.rows_of.Given as goal

abbrev pub invariant-loop-step : goal.invariant-loop-step
invariant-loop-step l =
    l.rows.items ++ rows_after l.train l.row (drop l.step-index l.steps) ≡ rows_after l.train (beginning l.train l.fn.first) l.steps
