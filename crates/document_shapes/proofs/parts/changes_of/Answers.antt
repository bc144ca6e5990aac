use Rattle.std.proofs.Common.{codes}
use Rattle.std.proofs.lemmas.Result.{IfOk-weaker}
use Rattle.serde_json.specs.View.{view}
use Rattle.document_shapes.proofs.Agreement.{agrees-at, agrees-items, agrees-changes}
use Rattle.document_shapes.proofs.parts.changes_of.Goals as goal

pub returns : goal.returns
returns c =
    let agrees = agrees-at (agrees-items agrees-changes) (codes "changes") in
    let section = view c.args.section.now in
    record {
      ok = IfOk-weaker c.member_called.result _ _ (λ v h. agrees.reads section v h) c.member_called.ensures.ok;
      err = λ e. agrees.misfits section (c.member_called.ensures.err e);
    }
