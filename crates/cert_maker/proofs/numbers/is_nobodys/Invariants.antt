use Rattle.cert_maker.proofs.Common.{◌≡◌, ℕ, ◌<◌, Some, number_in}
use Rattle.cert_maker.proofs.numbers.is_nobodys.Given as goal

abbrev pub invariant-loop-section : goal.invariant-loop-section
invariant-loop-section l = (s : ℕ) → s < l.section → number_in l.numbers s ≡ Some l.number → ⊥
