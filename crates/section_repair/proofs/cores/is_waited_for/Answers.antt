use Rattle.std.proofs.Common.{◌<◌, arith, length, get_or, ap}
use Rattle.rail_model.specs.Table.{trains}
use Rattle.section_repair.proofs.Steps.{asks-length, asks-at}
use Rattle.section_repair.proofs.cores.is_waited_for.Goals as goal

pub bounds-asks-member : goal.bounds-asks-member
bounds-asks-member c =
    let n = asks-length c.args.table.now c.args.state.now c.args.asks.now c.requires.asks in
    let items = c.as_slice-member-items.ensures in
    let k = c.loop-member.member-index in
    let inside : k < length c.args.group.now = omega (arith, ap length items, c.loop-member-test.true) in
    let l : get_or c.args.group.now k 0 < trains c.args.table.now = c.requires.group k 0 inside in
    omega (arith, n, ap (λ v. get_or v k 0) items)

pub waits_for-requires-clause-told : goal.waits_for-requires-clause-told
waits_for-requires-clause-told c =
    let items = c.as_slice-member-items.ensures in
    let k = c.loop-member.member-index in
    let inside : k < length c.args.group.now = omega (arith, ap length items, c.loop-member-test.true) in
    let l : get_or c.args.group.now k 0 < trains c.args.table.now = c.requires.group k 0 inside in
    asks-at c.args.table.now c.args.state.now c.args.asks.now (get_or c.as_slice-member-items.result.now k 0) _ c.requires.asks (omega (arith, ap (λ v. get_or v k 0) items))
