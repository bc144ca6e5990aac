use Rattle.std.proofs.Common.{Some}
use Rattle.serde_json.specs.View.{view}
use Rattle.document_shapes.specs.declared.member.Member.TheVariants as member
use Rattle.document_shapes.proofs.Agreement.{agrees-list, agrees-text}
use Rattle.document_shapes.proofs.MemberLemmas.{need-answers}
use Rattle.document_shapes.proofs.table.missions.Goals as goal

pub returns : goal.returns
returns c =
    need-answers (agrees-list (agrees-list agrees-text)) (Some c.args.table) member.Missions (view c.args.value.now) c.needed.result c.needed.ensures.ok c.needed.ensures.err
