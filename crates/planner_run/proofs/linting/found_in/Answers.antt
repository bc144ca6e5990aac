use Rattle.std.proofs.Common.{sym, subst}
use Rattle.std.specs.Prelude.{IfOk}
use Rattle.document_lint.specs.Told.{AreRemarks, IsSoOf}
use Rattle.planner_run.proofs.linting.found_in.Goals as goal

pub returns-in-Some : goal.returns-in-Some
returns-in-Some c =
    let input = c.args.document.now in
    subst (λ former. IfOk c.lint_after.result (λ remarks. AreRemarks (IsSoOf former input) remarks.items)) (sym c.in-Some.is) c.lint_after.ensures

pub returns-in-None : goal.returns-in-None
returns-in-None c =
    let input = c.args.document.now in
    subst (λ former. IfOk c.lint.result (λ remarks. AreRemarks (IsSoOf former input) remarks.items)) (sym c.in-None.is) c.lint.ensures
