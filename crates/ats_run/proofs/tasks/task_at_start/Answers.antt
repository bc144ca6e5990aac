use Rattle.std.proofs.Common.{refl, ◌∙◌}
use Rattle.ats_run.proofs.Begun.{begun_at}
use Rattle.ats_run.proofs.tasks.task_at_start.Goals as goal

pub returns-clause-start : goal.returns-clause-start
returns-clause-start c = (c.in_ok-from.from, refl, c.in_ok-from.ensures ∙ begun_at c.args.checked.doc c.start.result.now c.start.ensures.start)
