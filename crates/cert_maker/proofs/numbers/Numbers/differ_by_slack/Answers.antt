use Rattle.cert_maker.proofs.Common.{◌<◌, ℕ, List, length, sym, ◌∙◌, subst, All, false≢true, IsGone, IsNew}
use Rattle.cert_maker.specs.Slack.{IsSlack}
use Rattle.cert_maker.proofs.Numbered.{all_below, all_listed, each_listed}
use Rattle.cert_maker.proofs.SlackBoxes.{box_same}
use Rattle.cert_maker.proofs.numbers.Numbers.differ_by_slack.Goals as goal

pub are_slack-requires-clause-boxed : goal.are_slack-requires-clause-boxed
are_slack-requires-clause-boxed c = box_same c.args.table.now c.args.former.now c.args.ranges.now (sym c.requires.numbers.renumbers.missions_same) c.requires.boxed

pub are_slack-requires-clause-sections : goal.are_slack-requires-clause-sections
are_slack-requires-clause-sections c =
    let T = c.args.former.now in
    let N = c.args.self.now in
    subst (λ (xs : List ℕ). All (λ s. s < length T.sections) xs) (sym c.deref.ensures.value)
    (all_below (IsGone N.numbers.items) (length T.sections) N.gone.items c.requires.numbers.gone_are)

pub are_slack-requires-then-are_slack-clause-sections : goal.are_slack-requires-then-are_slack-clause-sections
are_slack-requires-then-are_slack-clause-sections c =
    let U = c.args.table.now in
    let N = c.args.self.now in
    subst (λ (xs : List ℕ). All (λ s. s < length U.sections) xs) (sym c.deref-then-are_slack.ensures.value)
    (all_below (IsNew N.numbers.items) (length U.sections) N.come.items c.requires.numbers.come_are)

pub returns-then-are_slack : goal.returns-then-are_slack
returns-then-are_slack c =
    let T = c.args.former.now in
    let U = c.args.table.now in
    let B = c.args.ranges.now in
    let N = c.args.self.now in
    let gone = subst (λ (xs : List ℕ). All (IsSlack T B) xs) c.deref.ensures.value (c.are_slack.ensures.0 c.if-are_slack.true) in (
      λ slack. record {
        gone = each_listed (IsGone N.numbers.items) (IsSlack T B) (length T.sections) N.gone.items c.requires.numbers.gone_are gone;
        come = each_listed (IsNew N.numbers.items) (IsSlack U B) (length U.sections) N.come.items c.requires.numbers.come_are
            (subst (λ (xs : List ℕ). All (IsSlack U B) xs) c.deref-then-are_slack.ensures.value (c.are_slack-then-are_slack.ensures.0 slack));
      },
      λ differ. c.are_slack-then-are_slack.ensures.1 (subst (λ (xs : List ℕ). All (IsSlack U B) xs) (sym c.deref-then-are_slack.ensures.value)
          (all_listed (IsNew N.numbers.items) (IsSlack U B) (length U.sections) N.come.items c.requires.numbers.come_are differ.come)),
    )

pub returns-else-are_slack : goal.returns-else-are_slack
returns-else-are_slack c =
    let T = c.args.former.now in
    let B = c.args.ranges.now in
    let N = c.args.self.now in (
      λ e. absurd (false≢true (sym c.if-are_slack.false ∙ e)),
      λ differ. c.are_slack.ensures.1 (subst (λ (xs : List ℕ). All (IsSlack T B) xs) (sym c.deref.ensures.value)
          (all_listed (IsGone N.numbers.items) (IsSlack T B) (length T.sections) N.gone.items c.requires.numbers.gone_are differ.gone)),
    )
