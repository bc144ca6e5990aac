use Rattle.std.proofs.Common.{◌≡◌, ◌∙◌, sym, ap, get_or, [], arith}
use Rattle.std.proofs.lemmas.Grind.{common_steps}
use Rattle.rail_model.specs.Table.{trains}
use Rattle.rail_model.specs.Turns.{first_below}
use Rattle.rail_model.proofs.Firsts.{first_below-found}
use Rattle.document_json.specs.Tables.{bad_times}
use Rattle.document_json.proofs.Refusals.{refused-by}
use Rattle.document_json.proofs.checks.check_values.Goals as goal

pub returns-in_err-check_train : goal.returns-in_err-check_train
returns-in_err-check_train c =
    let e = c.in_err-check_train.field-0.0 in
    let times = c.args.times.now in
    let steps : c.as_slice.result.now ≡ get_or times c.loop-train.train [] = grind (arith, common_steps) in
    refused-by c.from_residual.result e (first_below (trains c.args.table.now) (λ i. bad_times c.args.number i (get_or times i []))) c.from_residual.ensures.1
    (first_below-found (trains c.args.table.now) c.loop-train.train (λ i. bad_times c.args.number i (get_or times i [])) e (omega arith) c.loop-train.invariant
    (ap (bad_times c.args.number c.loop-train.train) (sym steps) ∙ sym c.in_err-check_train.ensures))
