use Rattle.std.proofs.Common.{◌∙◌}
use Rattle.std.proofs.lemmas.Result.{IfOk-weaker}
use Rattle.document_shapes.proofs.ReadingLemmas.{kept-text, kept-other}
use Rattle.document_shapes.proofs.kept.read_kept.Goals as goal

pub returns-in-Ok-clause-ok : goal.returns-in-Ok-clause-ok
returns-in-Ok-clause-ok c = IfOk-weaker c.value_of.result _ _ (λ v is. kept-text c.args.bytes.now c.in-Ok.text.now c.in-Ok.ensures.cases ∙ is) c.value_of.ensures.ok

pub returns-in-Ok-clause-not_json : goal.returns-in-Ok-clause-not_json
returns-in-Ok-clause-not_json c refused = kept-text c.args.bytes.now c.in-Ok.text.now c.in-Ok.ensures.cases ∙ c.value_of.ensures.not_json refused

pub returns-in-Err-clause-not_json : goal.returns-in-Err-clause-not_json
returns-in-Err-clause-not_json c _ = kept-other c.args.bytes.now c.in-Err.ensures.cases.0
