use Rattle.cert_maker.proofs.Common.{◌≡◌, ℕ, subst, arith, HasAll, IsNew}
use Rattle.cert_maker.proofs.numbers.nobodys_numbers.Goals as goal

pub returns : goal.returns
returns c =
    let end : c.loop-number.number ≡ c.args.many = omega arith in
    subst (λ (n : ℕ). HasAll (IsNew c.args.numbers.now) n c.loop-number.come.items) end c.loop-number.invariant
