use Rattle.std.proofs.lemmas.Result.{IfOk-weaker}
use Rattle.document_json.specs.Replaced.{replaced}
use Rattle.document_json.proofs.renewing.replaced.Goals as goal

pub returns : goal.returns
returns c = IfOk-weaker c.renewed.result _ _ (λ d h. h (replaced c.args.frame.now c.args.parts.now) c.in_ok-replaced_members.ensures.members) c.renewed.ensures
