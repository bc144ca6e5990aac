use Rattle.section_repair.proofs.Kept.{each_round_loses_nothing}
use Rattle.section_repair.proofs.laws.each_round_loses_nothing.Goals as goal

pub returns : goal.returns
returns c = each_round_loses_nothing
