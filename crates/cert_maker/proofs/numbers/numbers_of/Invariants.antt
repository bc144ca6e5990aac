use Rattle.cert_maker.proofs.Numbered.{AreFound}
use Rattle.cert_maker.proofs.numbers.numbers_of.Given as goal

abbrev pub invariant-loop-section : goal.invariant-loop-section
invariant-loop-section l = AreFound l.former.sections l.table.sections l.section-index l.numbers.items l.from
