use Rattle.serde_json.specs.View.{view}
use Rattle.document_shapes.specs.declared.member.Member.TheVariants as member
use Rattle.document_shapes.proofs.Agreement.{agrees-items, agrees-section}
use Rattle.document_shapes.proofs.MemberLemmas.{may-answers}
use Rattle.document_shapes.proofs.table.sections.Goals as goal

pub returns : goal.returns
returns c =
    may-answers (agrees-items agrees-section) c.args.table member.Sections (view c.args.value.now) c.given.result c.given.ensures.ok c.given.ensures.err
