use Rattle.std.proofs.Common.{ap, sym, ◌∙◌, Err, Some}
use Rattle.serde_json.specs.View.{view}
use Rattle.document_shapes.specs.declared.refused.Misfit.TheVariants.{Shape}
use Rattle.document_shapes.proofs.Agreement.{agrees-items, agrees-change}
use Rattle.document_shapes.proofs.ListLemmas.{passed_up}
use Rattle.document_shapes.proofs.parts.ChangesFromValue.from_value.Goals as goal

pub returns-clause-ok : goal.returns-clause-ok
returns-clause-ok c =
    (agrees-items agrees-change).reads (view c.args.value.now) c.in_ok-changes.changes c.in_ok-changes.ensures.ok ∙ ap Some (sym c.from.ensures)

pub returns-in_err-changes-clause-err : goal.returns-in_err-changes-clause-err
returns-in_err-changes-clause-err c e =
    let shape = passed_up c.from_residual.result c.in_err-changes.field-0.0 Shape c.from_residual.ensures.1 e in
    (agrees-items agrees-change).misfits (view c.args.value.now) (c.in_err-changes.ensures.err (ap Err shape))
