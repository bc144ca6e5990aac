use Rattle.rail_model.proofs.NameTests.{Decides-name, first_double-some, first_double-none}
use Rattle.rail_model.proofs.laws.each_name_is_tested.Goals as goal

pub returns-clause-name : goal.returns-clause-name
returns-clause-name c = Decides-name

pub returns-clause-double : goal.returns-clause-double
returns-clause-double c = first_double-some

pub returns-clause-none : goal.returns-clause-none
returns-clause-none c = first_double-none
