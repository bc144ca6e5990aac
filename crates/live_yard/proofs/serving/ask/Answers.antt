use Rattle.std.proofs.Common.{◌+◌, List, length, sym, ap, subst, ◌∙◌}
use Rattle.rail_model.specs.declared.types.Line.{Line}
use Rattle.plain_yard.specs.Keeps.{PlainRun}
use Rattle.live_yard.specs.declared.requests.Reply.{Reply}
use Rattle.live_yard.specs.Answers.{Asks}
use Rattle.live_yard.specs.Reported.{Reported, after_told}
use Rattle.live_yard.proofs.Wanting.{asks_told, told_size, with_wants}
use Rattle.live_yard.proofs.serving.ask.Goals as goal

pub returns-clause-asks : goal.returns-clause-asks
returns-clause-asks g c wants =
    let line = ap (λ (ls : List Line). length ls + 1)
    (c.lines.ensures ∙ ap (λ (run : PlainRun). run.lines) c.run.ensures.run) in
    subst (λ (y : Reported). Asks (with_wants c.args.yard.now wants) c.args.train c.reply_of.result
    (with_wants y wants)) (sym c.go-told.ensures.after)
    (subst
    (λ (reply : Reply). Asks (with_wants c.args.yard.now wants) c.args.train reply
    (with_wants (after_told c.args.yard.now c.args.train c.go-told.result) wants))
    (sym c.reply_of.ensures)
    (asks_told (with_wants c.args.yard.now wants) c.args.train _ c.go-told.result c.go-told.ensures.told line))

pub returns-clause-size : goal.returns-clause-size
returns-clause-size g c =
    ap (λ (v : Reported). length v.there) c.go-told.ensures.after
    ∙ told_size c.args.yard.now c.args.train c.go-told.result
