use Rattle.std.proofs.Common.{◌≤◌, sym, subst, arith}
use Rattle.std.specs.Prelude.{option_map}
use Rattle.serde_json.specs.View.{view}
use Rattle.rail_model.specs.Turns.{AnswersAs}
use Rattle.document_shapes.specs.declared.member.Member.TheVariants as member
use Rattle.document_shapes.specs.declared.refused.ShapeRefused.TheVariants.{Memory}
use Rattle.document_shapes.proofs.Agreement.{agrees-items, agrees-truth}
use Rattle.document_shapes.proofs.MemberLemmas.{may-answers, since-newer}
use Rattle.document_shapes.proofs.table.exits.Goals as goal

pub returns : goal.returns
returns c =
    let newer : 2 ≤ c.args.version = omega arith in
    subst (AnswersAs Memory (option_map (λ v. v.items)) c.given.result) (sym (since-newer 2 c.args.version _ newer))
    (may-answers (agrees-items agrees-truth) c.args.table member.Exits (view c.args.value.now) c.given.result c.given.ensures.ok c.given.ensures.err)
