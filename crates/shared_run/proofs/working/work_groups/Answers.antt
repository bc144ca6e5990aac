use Rattle.std.proofs.Common.{◌<◌, subst}
use Rattle.zone_yard.specs.Passes.{Root}
use Rattle.shared_run.proofs.Worked.{has_worked}
use Rattle.shared_run.proofs.working.work_groups.Goals as goal

pub returns : goal.returns
returns g c =
    has_worked c.args.yard.now c.args.crew c.board_all.new.groups.items c.run_all.new.groups.items c.args.root.now c.board_all.new.root
    c.leave_all-2.new.root c.requires.fresh c.requires.crew
    (subst (λ (r : Root). 4000000 < r.yard.setup.calls) c.requires.fresh c.requires.calls) c.board_all.ensures.boarded c.in_default.ensures.dealt c.run_all.ensures.worked c.leave_all-2.ensures
