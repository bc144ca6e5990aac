use Rattle.std.proofs.Common.{sym, arith}
use Rattle.std.proofs.lemmas.Grind.{common_steps}
use Rattle.document_shapes.proofs.PartLemmas.{connection_other}
use Rattle.document_shapes.proofs.parts.connection_of.Goals as goal

pub returns-in_default : goal.returns-in_default
returns-in_default c = sym (connection_other c.args.values.now (λ e. grind (arith, common_steps)))
