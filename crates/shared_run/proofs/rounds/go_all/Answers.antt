use Rattle.std.proofs.Common.{◌<◌, length, true≢false, sym, ◌∙◌, subst, arith}
use Rattle.zone_yard.specs.Passes.{Pass}
use Rattle.shared_run.specs.Rounds.{GoesRound}
use Rattle.shared_run.proofs.Gone.{any_default, ours_set, one_more, whole_round}
use Rattle.shared_run.proofs.rounds.go_all.Goals as goal
use Rattle.shared_run.proofs.rounds.go_all.Goals.{then-not-is_end, else-not-is_end}

pub loop-driver-preserved : goal.loop-driver-preserved
loop-driver-preserved g c =
    let i = c.loop-driver.driver-index in
    let ds = c.loop-driver.drivers in
    let inv = c.loop-driver.invariant in
    let e = c.go_round-round.new.driver in
    let lt : c.loop-driver.driver-index < length c.loop-driver.drivers = omega arith in
    let item = c.driver-item.result in
    record {
      ours = ours_set c.args.yard.now ds i e lt inv.ours (c.go_round-round.ensures.same.1 ∙ inv.ours i item lt);
      gone = one_more c.args.block i c.loop-driver.all c.is_end.result c.if-not-is_end.all c.args.drivers.now ds e c.go_round-round.result lt inv.gone
          (λ d. subst (λ (x : Pass). GoesRound c.args.block c.go_round-round.result x c.go_round-round.new.driver) (any_default ds i item d lt) c.go_round-round.ensures.round)
          c.is_end.ensures
          (elim c.if-not-is_end.branch [
            | then-not-is_end w ↦ (λ t. absurd (true≢false (sym t ∙ w.all-is)), λ both. absurd (true≢false (sym both.1 ∙ w.if-not-is_end.true)))
            | else-not-is_end w ↦ (λ t. (sym w.all-is ∙ t, w.if-not-is_end.false), λ both. w.all-is ∙ both.0)
          ]);
    }

pub returns-then-waits-clause-asked : goal.returns-then-waits-clause-asked
returns-then-waits-clause-asked g c =
    whole_round c.args.block c.loop-driver.driver-index c.loop-driver.all c.args.drivers.now c.loop-driver.drivers (omega arith) (omega arith) c.loop-driver.invariant.gone

pub returns-else-waits-clause-asked : goal.returns-else-waits-clause-asked
returns-else-waits-clause-asked g c =
    whole_round c.args.block c.loop-driver.driver-index c.loop-driver.all c.args.drivers.now c.loop-driver.drivers (omega arith) (omega arith) c.loop-driver.invariant.gone
