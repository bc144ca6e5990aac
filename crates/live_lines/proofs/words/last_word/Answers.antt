use Rattle.move_journal.proofs.Splitting.{has_more, word_list_last}
use Rattle.live_lines.proofs.words.last_word.Goals as goal

pub returns-in-Some : goal.returns-in-Some
returns-in-Some c = has_more _ _ _ c.in-Some.ensures.0 c.in-Some.ensures.1

pub returns-in-None : goal.returns-in-None
returns-in-None c = word_list_last _ c.in-None.ensures
