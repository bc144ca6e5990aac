use Rattle.std.proofs.Common.{rules, arith}
use Rattle.shared_run.specs.Groups.{GroupWorked}
use Rattle.shared_run.proofs.Gone.{zipped}
use Rattle.shared_run.proofs.groups.run_groups.Goals as goal

pub returns-clause-worked : goal.returns-clause-worked
returns-clause-worked g c = zipped (GroupWorked c.args.rounds c.args.block) _ _ (omega arith) (λ k d lt. search rules)
