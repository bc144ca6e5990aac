use Rattle.std.proofs.Common.{sym, ap, subst, Result, Err, ◌∙◌}
use Rattle.json.specs.Value.{value_view}
use Rattle.rail_model.specs.Turns.{AnswersAs}
use Rattle.document_json.specs.Doc.{Doc}
use Rattle.document_json.specs.declared.refused.DocRefused.{DocRefused}
use Rattle.document_json.specs.declared.refused.DocRefused.TheVariants.{Memory}
use Rattle.document_json.proofs.KeptLemmas.{doc-kept, refused-none, value-none}
use Rattle.document_json.proofs.kept.document_kept.Goals as goal

pub returns-in-Ok-clause-document : goal.returns-in-Ok-clause-document
returns-in-Ok-clause-document c =
    let same = doc-kept c.args.bytes.now (value_view c.in-Ok.value) c.in-Ok.ensures.ok in
    subst (λ (r : Result Doc DocRefused). AnswersAs Memory (λ d. d) c.document_in-document.result r) (sym same) c.document_in-document.ensures

pub returns-in-Err-clause-document : goal.returns-in-Err-clause-document
returns-in-Err-clause-document c =
    refused-none c.args.bytes.now c.in-Err.refused c.no_value.result c.in-Err.ensures.errors (λ is. c.read_kept.ensures.not_json (c.in-Err.is ∙ ap Err is)) c.no_value.ensures.memory
    c.no_value.ensures.not_json

pub returns-in-Err-clause-value : goal.returns-in-Err-clause-value
returns-in-Err-clause-value c =
    value-none c.args.bytes.now c.in-Err.refused c.no_value.result c.in-Err.ensures.errors (λ is. c.read_kept.ensures.not_json (c.in-Err.is ∙ ap Err is)) c.no_value.ensures.memory
