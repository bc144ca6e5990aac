use Rattle.cert_maker.proofs.Common.{◌≡◌, ◌+◌, List, ℕ, true, sym, subst, HasAll, IsNew}
use Rattle.cert_maker.proofs.Numbered.{all_more, all_still}
use Rattle.cert_maker.proofs.numbers.add_come.Goals as goal

pub returns-then-not-is_nobodys : goal.returns-then-not-is_nobodys
returns-then-not-is_nobodys c =
    all_still (IsNew c.args.numbers.now) c.args.number c.args.come.now.items
    (λ new. absurd (let t : c.is_nobodys.result ≡ true = c.is_nobodys.ensures.1 new in cc)) c.requires

pub returns : goal.returns
returns c =
    let nobodys : c.is_nobodys.result ≡ true = cc in
    subst (λ (xs : List ℕ). HasAll (IsNew c.args.numbers.now) (c.args.number + 1) xs) (sym c.in_ok-push.ensures.items)
    (all_more (IsNew c.args.numbers.now) c.args.number c.args.come.now.items (c.is_nobodys.ensures.0 nobodys) c.requires)
