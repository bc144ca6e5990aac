use Rattle.section_protect.proofs.Lossless.{protected_tables_lose_nothing, certified_tables_are_exact}
use Rattle.section_protect.proofs.laws.protected_tables_lose_nothing.Goals as goal

pub returns-clause-lossless : goal.returns-clause-lossless
returns-clause-lossless c = protected_tables_lose_nothing

pub returns-clause-exact : goal.returns-clause-exact
returns-clause-exact c = certified_tables_are_exact
