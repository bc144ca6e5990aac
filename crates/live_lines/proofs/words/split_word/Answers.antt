use Rattle.std.proofs.Common.{◌∙◌, ap}
use Rattle.move_journal.specs.Words.{word_list}
use Rattle.move_journal.proofs.Splitting.{word_list_more, word_list_last}
use Rattle.live_lines.proofs.words.split_word.Goals as goal

pub returns-in-Some : goal.returns-in-Some
returns-in-Some c = ap word_list c.in-Some.ensures.0
    ∙ word_list_more c.in-Some.word.now c.in-Some.later.now c.in-Some.ensures.1

pub returns-in-None : goal.returns-in-None
returns-in-None c = word_list_last c.args.bytes.now c.in-None.ensures
