use Rattle.rail_model.proofs.Agree.{good-agrees, Decides-at_end, Decides-clash, Decides-surely_moves}
use Rattle.rail_model.proofs.BoxTests.{block, full, held}
use Rattle.rail_model.proofs.laws.each_box_is_tested.Goals as goal

pub returns-clause-good : goal.returns-clause-good
returns-clause-good c = good-agrees

pub returns-clause-at_end : goal.returns-clause-at_end
returns-clause-at_end c = Decides-at_end

pub returns-clause-clash : goal.returns-clause-clash
returns-clause-clash c = Decides-clash

pub returns-clause-moves : goal.returns-clause-moves
returns-clause-moves c = Decides-surely_moves

pub returns-clause-block : goal.returns-clause-block
returns-clause-block c = block

pub returns-clause-full : goal.returns-clause-full
returns-clause-full c = full

pub returns-clause-held : goal.returns-clause-held
returns-clause-held c = held
