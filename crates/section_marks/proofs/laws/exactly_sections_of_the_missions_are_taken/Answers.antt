use Rattle.section_marks.proofs.SectionsTaken.{sections_taken}
use Rattle.section_marks.proofs.laws.exactly_sections_of_the_missions_are_taken.Goals as goal

pub returns : goal.returns
returns c = sections_taken
