use Rattle.std.proofs.Common.{◌≡◌, true, rules, subst}
use Rattle.forbidden_states.specs.Forbid.{AreStays}
use Rattle.state_core.proofs.Trapped.{guard_from, trap_from}
use Rattle.state_core.proofs.traps.is_trap.Goals as goal

pub returns-clause-trap : goal.returns-clause-trap
returns-clause-trap c = λ h.
    (let stays : c.are_stays.result ≡ true = search rules in
    let early : c.one_ends_early.result ≡ true = search rules in
    trap_from c.args.table.now c.args.stays.now _ c.trains_of-count.ensures.formed
    (subst (λ n. AreStays n c.args.stays.now) c.trains_of-count.ensures.count (c.are_stays.ensures stays))
    (c.one_ends_early.ensures early)
    c.in_ok-state.ensures (c.in_ok-is_so.ensures h))

pub returns-clause-guard : goal.returns-clause-guard
returns-clause-guard c = λ h.
    (let stays : c.are_stays.result ≡ true = search rules in
    let early : c.one_ends_early.result ≡ true = search rules in
    guard_from c.args.table.now c.args.stays.now _ c.trains_of-count.ensures.formed
    (subst (λ n. AreStays n c.args.stays.now) c.trains_of-count.ensures.count (c.are_stays.ensures stays))
    (c.one_ends_early.ensures early)
    c.in_ok-state.ensures (c.in_ok-is_so.ensures h))
