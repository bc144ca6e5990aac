use Rattle.zone_yard.proofs.Prelude.{refl, sym, ap, subst, arith, SharedYard, BlockReplies}
use Rattle.zone_yard.specs.declared.replies.BlockReply.{BlockReply}
use Rattle.zone_yard.proofs.Replied.{asked_block}
use Rattle.zone_yard.proofs.yard.Yard.try_block.Goals as goal

pub returns-then-left-eq0-clause-reply : goal.returns-then-left-eq0-clause-reply
returns-then-left-eq0-clause-reply g c =
    (omega (arith, c.entries_left-left.ensures.left, c.if-left-eq0.true, ap (λ (y : SharedYard). y.setup.calls) c.requires.ours), (refl, c.entries_left-left.ensures.free))

pub returns-clause-reply : goal.returns-clause-reply
returns-clause-reply g c =
    let sum = c.entries_left-left.ensures.left in
    let calls = ap (λ (y : SharedYard). y.setup.calls) c.requires.ours in
    subst (λ (r : BlockReply). BlockReplies c.args.want c.args.driver.now r c.ask_steps.new.driver) (sym c.block_reply_of.ensures)
    (asked_block c.args.want c.min.result c.ask_steps.result c.args.driver.now c.ask_steps.new.driver (omega (arith, sum, c.if-left-eq0.false, calls)) (omega (arith, sum, calls, c.min.ensures)) c.ask_steps.ensures.asked)
