use Rattle.move_journal.proofs.OneAnswer.{gives_part}
use Rattle.move_journal.proofs.reading.read_prefix.Goals as goal

pub returns-clause-again : goal.returns-clause-again
returns-clause-again c = λ part p. gives_part c.args.names.now c.args.bytes.now part c.lines_from.result c.trains-trains.ensures.formed p c.lines_from.ensures
