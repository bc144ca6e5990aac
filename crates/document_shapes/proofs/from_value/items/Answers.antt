use Rattle.std.proofs.Common.{ap, Err, rules}
use Rattle.document_shapes.specs.declared.refused.Misfit.TheVariants.{Shape}
use Rattle.document_shapes.proofs.ListLemmas.{passed_up, read_push, one_misfits}
use Rattle.document_shapes.proofs.from_value.items.Goals as goal

pub returns-in_err-from_value-clause-err : goal.returns-in_err-from_value-clause-err
returns-in_err-from_value-clause-err g c e =
    let shape = passed_up c.from_residual.result c.in_err-from_value.field-0.0 Shape c.from_residual.ensures.1 e in
    one_misfits g.T.FromValue.misfits c.args.values.now c.loop-value.value-index c.value-item.result (search rules) (search rules) (c.in_err-from_value.ensures.err (ap Err shape))

pub loop-value-preserved : goal.loop-value-preserved
loop-value-preserved g c =
    read_push g.T.FromValue.reads c.args.values.now _ _ c.loop-value.value-index c.value-item.result c.in_ok-from_value.field-0 (search rules) (search rules)
    c.in_ok-from_value.ensures.ok c.in_ok-push.ensures.items c.loop-value.invariant
