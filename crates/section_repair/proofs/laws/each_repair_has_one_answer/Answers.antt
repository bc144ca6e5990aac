use Rattle.section_repair.proofs.OneAnswer.{repair_is_unique}
use Rattle.section_repair.proofs.laws.each_repair_has_one_answer.Goals as goal

pub returns : goal.returns
returns c = repair_is_unique
