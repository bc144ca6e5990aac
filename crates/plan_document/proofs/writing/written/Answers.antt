use Rattle.std.proofs.Common.{◌≡◌, ◌∙◌, Ok, ap, sym, subst}
use Rattle.std.proofs.lemmas.Result.{IfOk-weaker}
use Rattle.document_shapes.specs.Raw.{IsRead}
use Rattle.document_shapes.specs.Seen.{seen_document}
use Rattle.plan_document.specs.Written.{document_of}
use Rattle.plan_document.proofs.Grown.{plan_is_read}
use Rattle.plan_document.proofs.writing.written.Goals as goal

pub returns-clause-members : goal.returns-clause-members
returns-clause-members c =
    let is : seen_document c.in_ok-members.members ≡ document_of c.args.plan = c.in_ok-members.ensures in
    IfOk-weaker c.write_document.result _ _ (λ b h. h (subst IsRead (sym is) (plan_is_read c.args.plan)) ∙ ap Ok is) c.write_document.ensures.reads_back
