use Rattle.std.proofs.Common.{◌∙◌, sym}
use Rattle.rail_model.proofs.Firsts.{result_err-is}
use Rattle.section_marks.proofs.Ties.{trains_stop, places_stop}
use Rattle.section_marks.proofs.connecting.check_each.Goals as goal

pub returns-in_err-check_trains : goal.returns-in_err-check_trains
returns-in_err-check_trains c =
    let e = c.in_err-check_trains.field-0.0 in
    result_err-is c.from_residual.result e c.from_residual.ensures.1
    ∙ sym (trains_stop c.args.table.now c.args.list.now c.loop-index.index c.index-list-index.result e c.loop-index-test.true c.index-list-index.is
    c.in_err-check_trains.ensures c.loop-index.invariant)

pub returns-in_err-check_places : goal.returns-in_err-check_places
returns-in_err-check_places c =
    let e = c.in_err-check_places.field-0.0 in
    result_err-is c.from_residual-in_err-check_places.result e c.from_residual-in_err-check_places.ensures.1
    ∙ sym (places_stop c.args.table.now c.args.list.now c.loop-index.index c.index-list-index.result e c.loop-index-test.true c.index-list-index.is
    c.in_ok-check_trains.ensures c.in_err-check_places.ensures c.loop-index.invariant)
