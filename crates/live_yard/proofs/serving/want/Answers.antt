use Rattle.std.proofs.Common.{◌+◌, List, length, sym, ap, subst, ◌∙◌}
use Rattle.rail_model.specs.declared.types.Line.{Line}
use Rattle.plain_yard.specs.Keeps.{PlainRun}
use Rattle.live_yard.specs.declared.requests.Reply.{Reply}
use Rattle.live_yard.specs.Answers.{Wants}
use Rattle.live_yard.specs.Reported.{Reported, after_told}
use Rattle.live_yard.proofs.Wanting.{told_size, wants_told, with_wants}
use Rattle.live_yard.proofs.serving.want.Goals as goal

pub returns-clause-wants : goal.returns-clause-wants
returns-clause-wants g c =
    let line = ap (λ (ls : List Line). length ls + 1)
    (c.lines.ensures ∙ ap (λ (run : PlainRun). run.lines) c.run.ensures.run) in
    let start = with_wants c.args.yard.now c.args.queue.now.wants in
    let longer = c.stand_if_held.new.queue.wants in
    subst (λ (y : Reported). Wants start c.args.train c.reply_of.result (with_wants y longer))
    (sym c.go-told.ensures.after)
    (subst
    (λ (reply : Reply). Wants start c.args.train reply
    (with_wants (after_told c.args.yard.now c.args.train c.go-told.result) longer))
    (sym c.reply_of.ensures)
    (wants_told start c.args.train _ c.go-told.result longer c.go-told.ensures.told line c.stand_if_held.ensures.wants))

pub returns-clause-trains : goal.returns-clause-trains
returns-clause-trains g c =
    c.stand_if_held.ensures.trains ∙ c.requires.trains
    ∙ sym (ap (λ (v : Reported). length v.there) c.go-told.ensures.after
    ∙ told_size c.args.yard.now c.args.train c.go-told.result)
