use Rattle.cert_maker.proofs.Common.{◌+◌, List, ℕ, sym, ◌∙◌, ap, subst, is_some, false≢true, number_in, HasAll, IsGone}
use Rattle.cert_maker.proofs.Numbered.{all_more, all_still, no_number}
use Rattle.cert_maker.proofs.numbers.add_gone.Goals as goal

pub returns-then-is_some : goal.returns-then-is_some
returns-then-is_some c =
    all_still (IsGone c.args.numbers.now) c.args.section c.args.gone.now.items
    (λ gone. absurd (false≢true (sym (ap is_some gone) ∙ sym c.is_some.ensures ∙ c.if-is_some.true))) c.requires.before

pub returns : goal.returns
returns c =
    let none = no_number (number_in c.args.numbers.now c.args.section) (sym c.is_some.ensures ∙ c.if-is_some.false) in
    subst (λ (xs : List ℕ). HasAll (IsGone c.args.numbers.now) (c.args.section + 1) xs) (sym c.in_ok-push.ensures.items)
    (all_more (IsGone c.args.numbers.now) c.args.section c.args.gone.now.items none c.requires.before)
