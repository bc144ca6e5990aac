use Rattle.std.proofs.Common.{◌≡◌}
use Rattle.live_yard.specs.Reported.{tried_on}
use Rattle.live_yard.proofs.Following.{keeps_tried, same_run}
use Rattle.live_yard.proofs.Answered.{answered_table}
use Rattle.live_yard.proofs.Indexing.{indexed_table}
use Rattle.live_yard.proofs.reported.ReportedYard.try_table.Goals as goal

pub invariant_of-self : goal.invariant_of-self
invariant_of-self g c =
    let after = c.try_table.ensures in
    let next_is : c.try_table.new.self ≡ tried_on c.self.inside.run c.try_table.result =
    same_run _ _ after.tables after.after after.adds after.room in (
      keeps_tried _ _ c.try_table.result c.self.invariant.0 next_is after.keeps after.few,
      indexed_table _ _ c.try_table.result _ c.self.invariant.1 next_is,
      answered_table _ _ c.try_table.result _ _ c.self.invariant.0 c.self.invariant.2 next_is c.expect_next.ensures,
    )
