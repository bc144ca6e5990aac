use Rattle.cert_maker.proofs.Common.{◌≡◌, ℕ, length, subst, arith, HasAll, IsGone}
use Rattle.cert_maker.proofs.numbers.without_number.Goals as goal

pub returns : goal.returns
returns c =
    let end : c.loop-section.section ≡ length c.args.numbers.now = omega arith in
    subst (λ (n : ℕ). HasAll (IsGone c.args.numbers.now) n c.loop-section.gone.items) end c.loop-section.invariant
