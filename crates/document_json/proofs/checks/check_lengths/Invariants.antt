use Rattle.std.proofs.Common.{◌≡◌, None}
use Rattle.rail_model.specs.Turns.{first_below}
use Rattle.document_json.specs.Tables.{bad_length}
use Rattle.document_json.proofs.checks.check_lengths.Given as goal

abbrev pub invariant-loop-train : goal.invariant-loop-train
invariant-loop-train l = first_below l.train (bad_length l.number l.table l.times) ≡ None
