use Rattle.std.proofs.Common.{ap, decimal, ◌∙◌}
use Rattle.toml.specs.View.{view}
use Rattle.plan_patterns.specs.Numbered.{numbered}
use Rattle.plan_patterns.proofs.Members.{one_more}
use Rattle.plan_patterns.proofs.writing.numbered_copies.Goals as goal

pub loop-before-preserved : goal.loop-before-preserved
loop-before-preserved c =
    let of_number = ap (λ number. numbered number (view c.args.entry.now)) (c.as_str.ensures.value ∙ c.in_ok-number.ensures.ok) in
    one_more (λ k. numbered (decimal k) (view c.args.entry.now)) c.loop-before.before c.loop-before.all.items _ c.in_ok-numbered.field-0
    c.in_ok-push.ensures.items c.loop-before.invariant (c.in_ok-numbered.ensures ∙ of_number)
