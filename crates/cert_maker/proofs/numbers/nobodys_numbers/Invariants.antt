use Rattle.cert_maker.specs.Numbers.{HasAll, IsNew}
use Rattle.cert_maker.proofs.numbers.nobodys_numbers.Given as goal

abbrev pub invariant-loop-number : goal.invariant-loop-number
invariant-loop-number l = HasAll (IsNew l.numbers) l.number l.come.items
