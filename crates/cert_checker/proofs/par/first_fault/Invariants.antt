use Rattle.std.proofs.Common.{◌≡◌, drop}
use Rattle.cert_checker.specs.Cut.{first_fault}
use Rattle.cert_checker.proofs.par.first_fault.Given as goal

abbrev pub invariant-loop-answer : goal.invariant-loop-answer
invariant-loop-answer l = first_fault l.answers ≡ first_fault (drop l.answer-index l.answers)
