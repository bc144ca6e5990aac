use Rattle.std.proofs.Common.{take}
use Rattle.std.specs.List.{AllZip}
use Rattle.wait_causes.specs.Waits.{IsWait}
use Rattle.wait_causes.proofs.waiting.waits.Given as goal

abbrev pub invariant-loop-departure : goal.invariant-loop-departure
invariant-loop-departure l = AllZip (IsWait l.doc l.sections l.run) (take l.departure-index l.departure-items) l.waits.items
