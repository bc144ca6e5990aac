use Rattle.std.proofs.Common.{ap, sym, ◌∙◌, Err, Some}
use Rattle.serde_json.specs.View.{view}
use Rattle.document_shapes.specs.declared.refused.Misfit.TheVariants.{Shape}
use Rattle.document_shapes.proofs.Agreement.{agrees-items, agrees-whole}
use Rattle.document_shapes.proofs.ListLemmas.{passed_up}
use Rattle.document_shapes.proofs.parts.TrainTimesFromValue.from_value.Goals as goal

pub returns-clause-ok : goal.returns-clause-ok
returns-clause-ok c =
    (agrees-items agrees-whole).reads (view c.args.value.now) c.in_ok-steps.steps c.in_ok-steps.ensures.ok ∙ ap Some (sym c.from.ensures)

pub returns-in_err-steps-clause-err : goal.returns-in_err-steps-clause-err
returns-in_err-steps-clause-err c e =
    let shape = passed_up c.from_residual.result c.in_err-steps.field-0.0 Shape c.from_residual.ensures.1 e in
    (agrees-items agrees-whole).misfits (view c.args.value.now) (c.in_err-steps.ensures.err (ap Err shape))
