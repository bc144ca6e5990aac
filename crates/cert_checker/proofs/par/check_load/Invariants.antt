use Rattle.std.proofs.Common.{drop}
use Rattle.std.specs.Prelude.{Result}
use Rattle.cert_checker.specs.declared.faults.CheckFault.{CheckFault}
use Rattle.cert_checker.specs.Cut.{ArePartsChecked}
use Rattle.cert_checker.proofs.par.check_load.Given as goal

abbrev pub invariant-loop-part : goal.invariant-loop-part
invariant-loop-part l =
    (answer : Result (Unit {0}) CheckFault) → ArePartsChecked l.tree.table.now l.tree.nodes.now (drop l.part-index l.load.parts.now) answer
    → ArePartsChecked l.tree.table.now l.tree.nodes.now l.load.parts.now answer
