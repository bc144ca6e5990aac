use Rattle.std.proofs.Common.{◌∙◌, subst}
use Rattle.cert_tree.specs.Refused.{IsRefused}
use Rattle.document_orders.proofs.Certificates.{keeps_spelled, keeps_any}
use Rattle.document_orders.proofs.keeping.kept.Goals as goal

pub returns-in-Ok : goal.returns-in-Ok
returns-in-Ok c = keeps_spelled c.args.nodes.now c.in-Ok.cert (c.in-Ok.ensures.spells ∙ c.in_ok-from_slice.ensures.items)

pub returns-in-Err : goal.returns-in-Err
returns-in-Err c =
    keeps_any c.args.nodes.now c.in-Err.field-0 c.smallest.result
    (subst (λ nodes. IsRefused nodes c.in-Err.field-0) c.in_ok-from_slice.ensures.items c.in-Err.ensures.refused)
