use Rattle.rail_model.proofs.BlockAnswers.{block_told, block_told_once, cut_to_block, entries_are_a_history, some_block_stops}
use Rattle.rail_model.proofs.laws.each_block_has_one_answer.Goals as goal

pub returns-clause-some : goal.returns-clause-some
returns-clause-some c = λ T p i n table legal i_in. block_told T p i table legal i_in n

pub returns-clause-one : goal.returns-clause-one
returns-clause-one c = block_told_once

pub returns-clause-entered : goal.returns-clause-entered
returns-clause-entered c = entries_are_a_history

pub returns-clause-stopped : goal.returns-clause-stopped
returns-clause-stopped c = some_block_stops

pub returns-clause-cut : goal.returns-clause-cut
returns-clause-cut c = cut_to_block
