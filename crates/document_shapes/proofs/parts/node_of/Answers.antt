use Rattle.std.proofs.Common.{sym, arith}
use Rattle.document_shapes.proofs.PartLemmas.{node_other}
use Rattle.document_shapes.proofs.parts.node_of.Goals as goal

pub returns-in_default-2 : goal.returns-in_default-2
returns-in_default-2 c = sym (node_other c.args.values.now (λ low high. omega arith))
