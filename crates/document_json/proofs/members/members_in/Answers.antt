use Rattle.std.proofs.Common.{◌∙◌}
use Rattle.std.proofs.lemmas.Result.{IfOk-weaker}
use Rattle.document_json.specs.Members.{members_in, with_tables}
use Rattle.document_json.proofs.members.members_in.Goals as goal

pub returns : goal.returns
returns c =
    IfOk-weaker c.members_with.result _ _
    (λ m h. h ∙ (λ j. with_tables c.args.version (c.in_ok-tables.ensures j) (members_in (c.frame.ensures j)))) c.members_with.ensures
