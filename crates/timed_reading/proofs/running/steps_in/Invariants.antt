use Rattle.std.proofs.Common.{◌≡◌, ◌++◌, drop}
use Rattle.rail_model.specs.Yard.{opening}
use Rattle.document_json.specs.Doc.{times_of}
use Rattle.timed_reading.specs.Runs.{steps_of}
use Rattle.timed_reading.proofs.running.steps_in.Given as goal

abbrev pub invariant-loop-timed : goal.invariant-loop-timed
invariant-loop-timed l =
    l.made.items ++ steps_of (times_of l.doc) l.yard (drop l.timed-index l.lines) ≡ steps_of (times_of l.doc) (opening l.doc.start) l.lines
