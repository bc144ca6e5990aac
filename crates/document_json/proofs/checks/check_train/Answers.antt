use Rattle.std.proofs.Common.{sym, get_or, length, arith}
use Rattle.rail_model.proofs.Firsts.{first_below-found}
use Rattle.document_json.specs.Tables.{bad_time, bad_times}
use Rattle.document_json.proofs.Refusals.{refused-by}
use Rattle.document_json.proofs.checks.check_train.Goals as goal

pub returns-in_err-check_time : goal.returns-in_err-check_time
returns-in_err-check_time c =
    let e = c.in_err-check_time.field-0.0 in
    refused-by c.from_residual.result e (bad_times c.args.table c.args.train c.args.times.now) c.from_residual.ensures.1
    (first_below-found (length c.args.times.now) c.loop-place.place (λ k. bad_time c.args.table c.args.train k (get_or c.args.times.now k 0)) e (omega arith) c.loop-place.invariant (sym c.in_err-check_time.ensures))
