use Rattle.std.proofs.Common.{◌≡◌, length, arith}
use Rattle.ring_sections.specs.Search.{standing_at}
use Rattle.ring_sections.proofs.StepLists.{looked_up, all_valid, all_there, made_more}
use Rattle.ring_sections.proofs.levels.steps_of.Goals as goal

pub add_steps-requires-clause-pairs : goal.add_steps-requires-clause-pairs
add_steps-requires-clause-pairs c =
    all_valid c.args.missions.now _ _ (looked_up c.args.missions.now (length c.args.standing.now) c.loop-point.point c.args.standing.now c.at.result.now (omega arith) c.requires.standing c.at.ensures)

pub add_steps-requires-clause-stand : goal.add_steps-requires-clause-stand
add_steps-requires-clause-stand c =
    all_there c.args.missions.now _ _ (looked_up c.args.missions.now (length c.args.standing.now) c.loop-point.point c.args.standing.now c.at.result.now (omega arith) c.requires.standing c.at.ensures)

pub loop-point-preserved : goal.loop-point-preserved
loop-point-preserved c =
    let M = c.args.missions.now in
    let is : c.at.result.now ≡ standing_at M c.loop-point.point =
    looked_up M (length c.args.standing.now) c.loop-point.point c.args.standing.now c.at.result.now (omega arith) c.requires.standing c.at.ensures in
    record {
      are_steps = c.in_ok-add_steps.ensures.steps;
      made = made_more M c.loop-point.steps.items c.add_steps.new.steps.items c.loop-point.point c.at.result.now
          c.in_ok-add_steps.ensures.kept c.loop-point.invariant.made is c.in_ok-add_steps.ensures.made;
    }
