use Rattle.std.proofs.Common.{arith}
use Rattle.std.proofs.lemmas.Grind.{common_steps}
use Rattle.document_shapes.proofs.ListLemmas.{two_other}
use Rattle.document_shapes.proofs.from_value.Tuple2FromValue.from_value.Goals as goal

pub returns-in_default-clause-err : goal.returns-in_default-clause-err
returns-in_default-clause-err g c _ = grind (arith, common_steps, two_other g.A.FromValue.misfits g.B.FromValue.misfits c.in_ok-items.items.now.items)
