use Rattle.std.proofs.Common.{sym, arith}
use Rattle.rail_model.specs.Table.{trains}
use Rattle.rail_model.specs.Turns.{first_below}
use Rattle.rail_model.proofs.Firsts.{first_below-found}
use Rattle.document_json.specs.Tables.{bad_length}
use Rattle.document_json.proofs.Refusals.{refused-by}
use Rattle.document_json.proofs.checks.check_lengths.Goals as goal

pub returns-in_err-check_length : goal.returns-in_err-check_length
returns-in_err-check_length c =
    let e = c.in_err-check_length.field-0.0 in
    refused-by c.from_residual.result e (first_below (trains c.args.table.now) (bad_length c.args.number c.args.table.now c.args.times.now)) c.from_residual.ensures.1
    (first_below-found (trains c.args.table.now) c.loop-train.train (bad_length c.args.number c.args.table.now c.args.times.now) e (omega arith) c.loop-train.invariant (sym c.in_err-check_length.ensures))
