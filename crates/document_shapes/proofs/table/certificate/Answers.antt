use Rattle.serde_json.specs.View.{view}
use Rattle.document_shapes.specs.declared.member.Member.TheVariants as member
use Rattle.document_shapes.proofs.Agreement.{agrees-items, agrees-node}
use Rattle.document_shapes.proofs.MemberLemmas.{may-answers}
use Rattle.document_shapes.proofs.table.certificate.Goals as goal

pub returns : goal.returns
returns c =
    may-answers (agrees-items agrees-node) c.args.table member.Certificate (view c.args.value.now) c.given.result c.given.ensures.ok c.given.ensures.err
