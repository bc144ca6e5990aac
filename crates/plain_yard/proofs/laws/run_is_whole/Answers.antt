use Rattle.plain_yard.proofs.Keeping.{whole, keeps_moves, keeps_stands}
use Rattle.plain_yard.proofs.laws.run_is_whole.Goals as goal

pub returns-clause-whole : goal.returns-clause-whole
returns-clause-whole c = whole

pub returns-clause-stands : goal.returns-clause-stands
returns-clause-stands c = keeps_stands

pub returns-clause-moves : goal.returns-clause-moves
returns-clause-moves c = keeps_moves
