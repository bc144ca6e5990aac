use Rattle.move_journal.proofs.Lookups.{called_answer}
use Rattle.live_lines.proofs.words.train_of.Goals as goal

pub returns : goal.returns
returns c = called_answer c.args.names.now.trains c.args.word.now c.train_called.result
    c.train_called.ensures.formed.trains c.train_called.ensures.found c.train_called.ensures.none
