use Rattle.std.proofs.Common.{◌≡◌, None, [], get_or}
use Rattle.rail_model.specs.Turns.{first_below}
use Rattle.document_json.specs.Tables.{bad_times}
use Rattle.document_json.proofs.checks.check_values.Given as goal

abbrev pub invariant-loop-train : goal.invariant-loop-train
invariant-loop-train l = first_below l.train (λ i. bad_times l.number i (get_or l.times i [])) ≡ None
