use Rattle.std.proofs.Common.{◌≡◌, ◌∙◌, ◌<◌, sym, ap, length, arith}
use Rattle.rail_model.proofs.Firsts.{result_err-is}
use Rattle.section_marks.specs.Marking.{places, changes_of}
use Rattle.section_marks.proofs.Sequence.{lengths_are, few_places, shares_stop, shares_go}
use Rattle.section_marks.proofs.making.check_shares.Goals.{After-changes_of}
use Rattle.section_marks.proofs.making.check_shares.Goals as goal

within : (c : After-changes_of) → c.loop-train.train < length c.args.missions.now
within c = omega (arith, c.loop-train-test.true, c.len-train-end.ensures.count)

-- the train has a change for each of its places
counted : (c : After-changes_of) → length (changes_of c.args.changes.now c.loop-train.train) ≡ places c.args.missions.now c.loop-train.train
counted c = lengths_are c.args.missions.now c.args.section c.args.changes.now c.loop-train.train c.requires (within c)

pub check_train-requires : goal.check_train-requires
check_train-requires c =
    let at = (goal.at.check_train-requires c).After-changes_of in
    let few = few_places c.args.missions.now c.loop-train.train c.len-train-end.ensures.formed (within at) in
    omega (arith, counted at, few, ap length c.changes_of.ensures)

pub returns-in_err-check_train : goal.returns-in_err-check_train
returns-in_err-check_train c =
    let at = (goal.at.returns-in_err-check_train c).After-changes_of in
    let e = c.in_err-check_train.field-0.0 in
    result_err-is c.from_residual.result e c.from_residual.ensures.1
    ∙ sym (shares_stop c.args.marks c.args.missions.now c.args.section c.args.changes.now c.loop-train.train c.changes_of.result.now e
    (within at) c.changes_of.ensures (counted at) c.in_err-check_train.ensures c.loop-train.invariant)

pub loop-train-preserved : goal.loop-train-preserved
loop-train-preserved c =
    let at = (goal.at.loop-train-preserved c).After-changes_of in
    shares_go c.args.marks c.args.missions.now c.args.section c.args.changes.now c.loop-train.train c.changes_of.result.now
    c.changes_of.ensures (counted at) c.in_ok-check_train.ensures c.loop-train.invariant
