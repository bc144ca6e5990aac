use Rattle.move_journal.proofs.OneAnswer.{gives}
use Rattle.move_journal.proofs.reading.read.Goals as goal

pub returns-clause-exact : goal.returns-clause-exact
returns-clause-exact c = c.whole.ensures c.args.names.now c.args.bytes.now c.read_prefix.ensures.exact

pub returns-clause-again : goal.returns-clause-again
returns-clause-again c = λ K p. gives c.args.names.now c.args.bytes.now K c.whole.result c.read_prefix.ensures.formed p (returns-clause-exact c)
