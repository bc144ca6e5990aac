use Rattle.rail_model.specs.Table.{trains}
use Rattle.live_answers.specs.Causes.{counts_in, still_counts}
use Rattle.live_answers.proofs.Choosing.{all_below}
use Rattle.live_answers.proofs.causes.in_the_way.Goals as goal

pub returns-in-Full-clause-below : goal.returns-in-Full-clause-below
returns-in-Full-clause-below c =
    all_below (counts_in c.args.scene.now c.in-Full.section) (trains c.args.scene.now.table) _ c.counted.ensures

pub returns-in-Clearing-clause-below : goal.returns-in-Clearing-clause-below
returns-in-Clearing-clause-below c =
    all_below (still_counts c.args.scene.now c.in-Clearing.section)
    (trains c.args.scene.now.table) _ c.counted-in-Clearing.ensures
