use Rattle.std.proofs.Common.{refl}
use Rattle.rail_model.specs.Journal.{text}
use Rattle.move_journal.proofs.OneAnswer.{one_journal}
use Rattle.move_journal.proofs.laws.one_journal_per_text.Goals as goal

pub returns : goal.returns
returns c = λ N a b names p q e. one_journal N (text N a) a b names (record { has = p; text = refl }) (record { has = q; text = e })
