use Rattle.std.proofs.Common.{◌∙◌}
use Rattle.std.proofs.lemmas.List.{take_all}
use Rattle.document_json.proofs.OneMore.{same-more}
use Rattle.document_json.proofs.members.times.Goals as goal

pub loop-steps-preserved : goal.loop-steps-preserved
loop-steps-preserved c =
    same-more c.args.times.now c.loop-steps.steps-index _ _ c.from.result c.steps-item.result c.loop-steps-test.true
    (c.from.ensures ∙ c.in_ok-steps.ensures.items ∙ c.as_slice.ensures ∙ c.steps-item.is) c.in_ok-push.ensures.items c.loop-steps.invariant

pub returns : goal.returns
returns c = c.loop-steps.invariant ∙ take_all c.loop-steps.steps-index c.args.times.now c.loop-steps-test.false
