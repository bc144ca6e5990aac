use Rattle.std.proofs.Common.{◌≡◌, ◌++◌, drop, string_bytes}
use Rattle.run_timetable.specs.Csv.{csv_rows}
use Rattle.run_timetable.proofs.values.push_rows.Given as goal

abbrev pub invariant-loop-row : goal.invariant-loop-row
invariant-loop-row l =
    string_bytes l.out ++ csv_rows l.layout l.names (drop l.row-index l.rows) ≡ string_bytes l.initial.out ++ csv_rows l.layout l.names l.rows
