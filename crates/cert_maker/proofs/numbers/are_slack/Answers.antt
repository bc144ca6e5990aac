use Rattle.cert_maker.proofs.Common.{◌≡◌, true, refl, subst, arith, below_more, get_or_default}
use Rattle.cert_maker.specs.Slack.{IsSlack}
use Rattle.cert_maker.proofs.numbers.are_slack.Goals as goal

pub loop-section-preserved : goal.loop-section-preserved
loop-section-preserved c =
    let slack : c.is_slack.result ≡ true = cc in
    below_more _ _ c.loop-section.invariant (c.is_slack.ensures.0 slack)

pub returns : goal.returns
returns c =
    let xs = c.args.sections.now in (
      (λ _ k d lt. subst (IsSlack c.args.table.now c.args.ranges.now) (get_or_default xs k 0 d lt) (c.loop-section.invariant k (omega (arith, lt, c.loop-section-test.false)))),
      λ _. refl,
    )
