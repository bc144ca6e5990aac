use Rattle.std.proofs.Common.{◌≡◌, ◌⊎◌, sym, ap, subst, inl, inr, Result, Err}
use Rattle.rail_model.specs.Turns.{in_turn, AnswersAs}
use Rattle.rail_model.proofs.Firsts.{Answers-err}
use Rattle.document_shapes.specs.Raw.{members_of}
use Rattle.document_shapes.specs.Seen.{seen_document}
use Rattle.document_shapes.proofs.Versions.{read-version}
use Rattle.document_json.specs.Doc.{Doc}
use Rattle.document_json.specs.declared.refused.DocRefused.{DocRefused}
use Rattle.document_json.specs.Reading.{doc_of, doc_from}
use Rattle.document_json.specs.Tables.{refused_as}
use Rattle.document_json.specs.declared.refused.DocRefused.TheVariants.{Memory, Shape}
use Rattle.document_json.proofs.TableBack.{refused_as-ok}
use Rattle.document_json.proofs.reading.document.Goals as goal

pub returns-in_err-read_members : goal.returns-in_err-read_members
unfolding doc_of
returns-in_err-read_members c =
    let e = c.in_err-read_members.field-0.0 in
    let bad : (e ≡ Memory) ⊎ (refused_as Shape (members_of c.args.bytes.now) ≡ Err e) = c.in_err-read_members.ensures in
    let answer = elim bad as (λ _. (e ≡ Memory) ⊎ (doc_of c.args.bytes.now ≡ Err e)) [
      | inl memory ↦ inl memory
      | inr shape ↦ inr (ap (λ r. in_turn r doc_from) shape)
    ] in
    Answers-err Memory (λ d. d) c.from_residual.result (doc_of c.args.bytes.now) e c.from_residual.ensures.1 answer

pub checked-requires : goal.checked-requires
checked-requires c =
    let m = seen_document c.in_ok-read_members.field-0 in
    read-version c.args.bytes.now m (refused_as-ok Shape (members_of c.args.bytes.now) m c.in_ok-read_members.ensures)

pub returns : goal.returns
unfolding doc_of
returns c =
    subst (λ (r : Result Doc DocRefused). AnswersAs Memory (λ d. d) c.checked.result r) (sym (ap (λ r. in_turn r doc_from) c.in_ok-read_members.ensures)) c.checked.ensures
