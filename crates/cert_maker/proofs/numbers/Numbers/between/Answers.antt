use Rattle.cert_maker.proofs.Common.{ℕ, List, Option, length, subst, HasAll, IsGone, IsNew}
use Rattle.cert_maker.proofs.numbers.Numbers.between.Goals as goal

pub returns : goal.returns
returns c =
    let gone = c.in_ok-gone.gone.items in
    let come = c.in_ok-come.come.items in
    let ns = c.in_ok-numbers.numbers.items in
    let renumbers = c.in_ok-numbers.ensures.numbers in
    record {
      renumbers = renumbers;
      gone_are = subst (λ (n : ℕ). HasAll (IsGone ns) n gone) renumbers.one_each
          (subst (λ (xs : List (Option ℕ)). HasAll (IsGone xs) (length xs) gone) c.deref.ensures.value c.in_ok-gone.ensures);
      come_are = subst (λ (n : ℕ). HasAll (IsNew ns) n come) c.sections_of.ensures.count
          (subst (λ (xs : List (Option ℕ)). HasAll (IsNew xs) c.sections_of.result come) c.deref-2.ensures.value c.in_ok-come.ensures);
    }
