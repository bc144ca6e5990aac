use Rattle.std.proofs.Common.{sym, subst}
use Rattle.std.specs.Prelude.{IfOk}
use Rattle.document_lint.specs.Told.{AreRemarks, IsSoOf}
use Rattle.document_lint.proofs.linting.remarks_in.Goals as goal

pub returns-in-Some : goal.returns-in-Some
returns-in-Some c =
    let bytes = c.args.bytes.now in
    subst (λ former. IfOk c.remarks_after.result (λ remarks. AreRemarks (IsSoOf former bytes) remarks.items)) (sym c.in-Some.is) c.remarks_after.ensures

pub returns-in-None : goal.returns-in-None
returns-in-None c =
    let bytes = c.args.bytes.now in
    subst (λ former. IfOk c.remarks_of.result (λ remarks. AreRemarks (IsSoOf former bytes) remarks.items)) (sym c.in-None.is) c.remarks_of.ensures
