use Rattle.move_journal.proofs.Fronts.{text_goes_on}
use Rattle.move_journal.proofs.laws.longer_text_keeps_its_front.Goals as goal

pub returns : goal.returns
returns c = text_goes_on
