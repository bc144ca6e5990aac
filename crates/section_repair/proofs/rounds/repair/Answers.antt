use Rattle.std.proofs.lemmas.Result.{IfOk-weaker}
use Rattle.section_repair.proofs.Kept.{loses_nothing, is_exact, dooms_alike}
use Rattle.section_repair.proofs.rounds.repair.Goals as goal

pub returns-clause-loses_nothing : goal.returns-clause-loses_nothing
returns-clause-loses_nothing c = IfOk-weaker c.answer.result _ _ (loses_nothing c.args.missions c.args.budget.nodes c.args.rounds) c.answer.ensures

pub returns-clause-exact : goal.returns-clause-exact
returns-clause-exact c = IfOk-weaker c.answer.result _ _ (is_exact c.args.missions c.args.budget.nodes c.args.rounds) c.answer.ensures

pub returns-clause-dooms : goal.returns-clause-dooms
returns-clause-dooms c = IfOk-weaker c.answer.result _ _ (dooms_alike c.args.missions c.args.budget.nodes c.args.rounds) c.answer.ensures
