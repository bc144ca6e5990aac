use Rattle.std.proofs.Common.{sym, ap, subst, Result}
use Rattle.rail_model.specs.Turns.{in_turn, AnswersAs}
use Rattle.document_shapes.specs.Seen.{seen_document}
use Rattle.document_shapes.specs.Written.{text_of}
use Rattle.document_shapes.proofs.Versions.{read-version}
use Rattle.document_json.specs.Doc.{Doc}
use Rattle.document_json.specs.Reading.{doc_of, doc_from}
use Rattle.document_json.specs.Tables.{refused_as}
use Rattle.document_json.specs.declared.refused.DocRefused.{DocRefused}
use Rattle.document_json.specs.declared.refused.DocRefused.TheVariants.{Memory, Shape}
use Rattle.document_json.proofs.reading.document_from.Goals as goal

pub checked-requires : goal.checked-requires
checked-requires c = let m = seen_document c.args.members in read-version (text_of m) m c.requires

pub returns : goal.returns
unfolding doc_of
returns c =
    subst (λ (r : Result Doc DocRefused). AnswersAs Memory (λ d. d) c.checked.result r) (sym (ap (λ r. in_turn (refused_as Shape r) doc_from) c.requires)) c.checked.ensures
