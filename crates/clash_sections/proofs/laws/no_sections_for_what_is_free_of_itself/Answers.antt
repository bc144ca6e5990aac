use Rattle.clash_sections.proofs.Crowded.{crowded-none}
use Rattle.clash_sections.proofs.laws.no_sections_for_what_is_free_of_itself.Goals as goal

pub returns : goal.returns
returns c = crowded-none
