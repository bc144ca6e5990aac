use Rattle.std.proofs.Common.{◌≡◌, ◌⊎◌, sym, ap, subst, inl, inr, Result, Err}
use Rattle.json.specs.Value.{value_view}
use Rattle.rail_model.specs.Turns.{in_turn, AnswersAs}
use Rattle.rail_model.proofs.Firsts.{Answers-err}
use Rattle.document_shapes.specs.Kept.{members_in}
use Rattle.document_shapes.specs.Seen.{seen_document}
use Rattle.document_shapes.proofs.Versions.{value-version}
use Rattle.document_json.specs.Doc.{Doc}
use Rattle.document_json.specs.Kept.{doc_in}
use Rattle.document_json.specs.Reading.{doc_from}
use Rattle.document_json.specs.declared.refused.DocRefused.{DocRefused}
use Rattle.document_json.specs.declared.refused.DocRefused.TheVariants.{Memory, Shape}
use Rattle.document_json.proofs.TableBack.{refused_as-ok}
use Rattle.document_json.proofs.kept.document_in.Goals as goal

pub returns-in_err-members_in : goal.returns-in_err-members_in
returns-in_err-members_in c =
    let j = value_view c.args.value.now in
    let e = c.in_err-members_in.field-0.0 in
    let answer = elim c.in_err-members_in.ensures as (λ _. (e ≡ Memory) ⊎ (doc_in j ≡ Err e)) [
      | inl memory ↦ inl memory
      | inr shape ↦ inr (ap (λ r. in_turn r doc_from) shape)
    ] in
    Answers-err Memory (λ d. d) c.from_residual.result (doc_in j) e c.from_residual.ensures.1 answer

pub checked-requires : goal.checked-requires
checked-requires c =
    let j = value_view c.args.value.now in
    let m = seen_document c.in_ok-members_in.field-0 in
    value-version j m (refused_as-ok Shape (members_in j) m c.in_ok-members_in.ensures)

pub returns : goal.returns
returns c =
    subst (λ (r : Result Doc DocRefused). AnswersAs Memory (λ d. d) c.checked.result r) (sym (ap (λ r. in_turn r doc_from) c.in_ok-members_in.ensures)) c.checked.ensures
