use Rattle.std.proofs.Common.{subst, sym}
use Rattle.ats_io.specs.Faults.{Rose}
use Rattle.live_session.specs.Answering.{IsOpening}
use Rattle.dispatch_run.proofs.Served.{no_talk, talked_badly, talked_well}
use Rattle.dispatch_run.specs.LiveSessions.{live_sessions}
use Rattle.dispatch_run.proofs.serving.talk.Goals as goal

pub returns-in-Ok-clause-talk : goal.returns-in-Ok-clause-talk
returns-in-Ok-clause-talk g c =
    talked_well live_sessions c.args.session.now c.deref.result.now c.args.first.now
    (g.S.Source.left c.args.source.now) (g.K.Sink.taken c.args.out.now)
    (g.K.Sink.taken c.converse.new.out) c.converse.result
    (subst (IsOpening c.args.session.now) (sym c.deref.ensures.value) c.in-Ok.ensures) c.converse.ensures.session

pub returns-in-Ok-clause-fault : goal.returns-in-Ok-clause-fault
returns-in-Ok-clause-fault g c =
    talked_badly live_sessions c.args.session.now c.deref.result.now c.args.first.now
    (Rose (g.S.Source.faults c.args.source.now) (g.S.Source.faults c.converse.new.source))
    (Rose (g.K.Sink.faults c.args.out.now) (g.K.Sink.faults c.converse.new.out)) (g.S.Source.left c.args.source.now)
    (g.S.Source.left c.converse.new.source) (g.K.Sink.taken c.args.out.now)
    (g.K.Sink.taken c.converse.new.out) c.converse.result
    (subst (IsOpening c.args.session.now) (sym c.deref.ensures.value) c.in-Ok.ensures) c.converse.ensures.fault

pub returns-in-Err-clause-fault : goal.returns-in-Err-clause-fault
returns-in-Err-clause-fault g c =
    no_talk live_sessions c.args.session.now c.args.first.now
    (Rose (g.S.Source.faults c.args.source.now) (g.S.Source.faults c.args.source.now))
    (Rose (g.K.Sink.faults c.args.out.now) (g.K.Sink.faults c.args.out.now)) (g.S.Source.left c.args.source.now)
    (g.K.Sink.taken c.args.out.now)
