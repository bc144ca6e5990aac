use Rattle.std.proofs.Common.{◌≡◌, true, rules, arith}
use Rattle.state_core.specs.Trap.{IsKeptAtEnd}
use Rattle.state_core.proofs.FirstStay.{each_among}
use Rattle.state_core.proofs.traps.+keeps_ends.Goals as goal

pub returns : goal.returns
returns t c = λ h.
    (let kept : c.is_kept_at_end.result ≡ true = search rules in
    each_among (IsKeptAtEnd c.args.table.now c.args.state.now c.args.group.now) c.args.stays.now c.stay-item.result
    (omega (arith, c.in-len1-up.len_at_least)) c.stay-item.is (c.is_kept_at_end.ensures kept) (c.keeps_ends.ensures h))
