use Rattle.std.proofs.Common.{◌≡◌, ℕ, ◌+◌, List, sym, subst, arith}
use Rattle.rail_model.specs.Table.{last}
use Rattle.state_boxes.specs.Each.{IsEach}
use Rattle.state_boxes.specs.Extremes.{Level, IsLevels, IsPick}
use Rattle.state_boxes.proofs.Each.{each_push}
use Rattle.state_boxes.proofs.levels.TrainShares.new.Goals as goal

pub pick-requires-clause-levels : goal.pick-requires-clause-levels
pick-requires-clause-levels c = subst (IsLevels c.args.table.now c.args.train) (sym {A = List Level} c.deref.ensures.value) c.in_ok-levels.ensures

pub pick-requires-clause-more : goal.pick-requires-clause-more
pick-requires-clause-more c = omega arith

pub loop-more-preserved : goal.loop-more-preserved
loop-more-preserved c =
    let levels = c.in_ok-levels.levels.items in
    let picked = subst (λ (all : List Level). IsPick all c.loop-more.more c.pick.result) c.deref.ensures.value c.pick.ensures in
    subst (IsEach (IsPick levels) (c.loop-more.more + 1) 0) (sym c.in_ok-push.ensures.items)
    (each_push (IsPick levels) c.loop-more.more 0 c.loop-more.picks.items _ c.loop-more.invariant picked)

pub returns : goal.returns
returns c =
    let end : c.loop-more.more ≡ last c.args.table.now c.args.train + 1 = omega arith in
    record {
      formed = c.last_of-last.ensures.formed;
      levels = c.in_ok-levels.ensures;
      picks = subst (λ (n : ℕ). IsEach (IsPick c.in_ok-levels.levels.items) n 0 c.loop-more.picks.items) end c.loop-more.invariant;
      sections = c.in_ok-sections.ensures;
    }
