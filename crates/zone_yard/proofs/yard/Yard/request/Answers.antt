use Rattle.zone_yard.proofs.Prelude.{refl, sym, ap, subst, arith, SharedYard, Replies}
use Rattle.zone_yard.specs.declared.replies.Reply.{Reply}
use Rattle.zone_yard.proofs.Replied.{asked_reply}
use Rattle.zone_yard.proofs.yard.Yard.request.Goals as goal

pub returns-then-left-eq0-clause-reply : goal.returns-then-left-eq0-clause-reply
returns-then-left-eq0-clause-reply g c =
    (omega (arith, c.entries_left-left.ensures.left, c.if-left-eq0.true, ap (λ (y : SharedYard). y.setup.calls) c.requires), (refl, c.entries_left-left.ensures.free))

pub returns-clause-reply : goal.returns-clause-reply
returns-clause-reply g c =
    subst (λ (r : Reply). Replies c.args.driver.now r c.ask_steps.new.driver) (sym c.reply_of.ensures)
    (asked_reply c.ask_steps.result c.args.driver.now c.ask_steps.new.driver
    (omega (arith, c.entries_left-left.ensures.left, c.if-left-eq0.false, ap (λ (y : SharedYard). y.setup.calls) c.requires)) c.ask_steps.ensures.asked)
