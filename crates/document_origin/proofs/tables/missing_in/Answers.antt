use Rattle.std.proofs.Common.{arith}
use Rattle.document_origin.proofs.Beginnings.{begin_alike}
use Rattle.document_origin.proofs.tables.missing_in.Goals as goal

pub returns : goal.returns
returns c = begin_alike c.args.planned.now c.args.sections.now (λ k lt. c.loop-at.invariant k (omega (arith, lt)))
