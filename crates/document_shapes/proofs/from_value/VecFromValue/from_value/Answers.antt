use Rattle.std.proofs.Common.{Some, ap, ◌∙◌}
use Rattle.serde_json.specs.View.{items_view}
use Rattle.document_shapes.proofs.ListLemmas.{reads_list, misfits_list}
use Rattle.document_shapes.proofs.from_value.VecFromValue.from_value.Goals as goal

pub returns-in-Some-clause-ok : goal.returns-in-Some-clause-ok
returns-in-Some-clause-ok g c =
    reads_list g.T.FromValue.reads _ c.as_slice.result.now c.items.result (ap (λ vs. Some (items_view vs)) c.as_slice.ensures.value ∙ c.in-Some.ensures) c.items.ensures.ok

pub returns-in-Some-clause-err : goal.returns-in-Some-clause-err
returns-in-Some-clause-err g c e =
    misfits_list g.T.FromValue.misfits _ c.as_slice.result.now (ap (λ vs. Some (items_view vs)) c.as_slice.ensures.value ∙ c.in-Some.ensures) (c.items.ensures.err e)
