use Rattle.cert_maker.specs.Numbers.{HasAll, IsGone}
use Rattle.cert_maker.proofs.numbers.without_number.Given as goal

abbrev pub invariant-loop-section : goal.invariant-loop-section
invariant-loop-section l = HasAll (IsGone l.fn.numbers) l.section l.gone.items
