use Rattle.std.proofs.Common.{◌≡◌, None, get_or}
use Rattle.rail_model.specs.Turns.{first_below}
use Rattle.document_json.specs.Tables.{bad_time}
use Rattle.document_json.proofs.checks.check_train.Given as goal

abbrev pub invariant-loop-place : goal.invariant-loop-place
invariant-loop-place l = first_below l.place (λ k. bad_time l.table l.train k (get_or l.times k 0)) ≡ None
