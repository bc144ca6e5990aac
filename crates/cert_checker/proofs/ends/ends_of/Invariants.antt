use Rattle.cert_checker.specs.Cut.{AreEndsFrom}
use Rattle.cert_checker.proofs.ends.ends_of.Given as goal

abbrev pub invariant-loop-index : goal.invariant-loop-index
invariant-loop-index l = AreEndsFrom l.index l.nodes l.ends.items
