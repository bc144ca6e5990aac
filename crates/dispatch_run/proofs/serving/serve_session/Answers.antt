use Rattle.std.proofs.Common.{subst}
use Rattle.ats_io.specs.Faults.{Rose}
use Rattle.dispatch_run.proofs.Served.{served_badly, served_well, unbegun}
use Rattle.dispatch_run.specs.LiveSessions.{live_sessions}
use Rattle.dispatch_run.specs.Restoring.{HasBegun}
use Rattle.dispatch_run.proofs.serving.serve_session.Goals as goal

pub returns-in-Ok-clause-served : goal.returns-in-Ok-clause-served
returns-in-Ok-clause-served g c =
    let opened = c.args.opened in
    let session = c.in-Ok.session in
    let begun : live_sessions.begins opened session =
    subst (λ hash. HasBegun opened.doc hash opened.state opened.reports session) c.as_str.ensures.value
    c.in-Ok.ensures in
    served_well live_sessions opened session c.args.first.now (g.S.Source.left c.args.source.now)
    (g.K.Sink.taken c.args.out.now) (g.K.Sink.taken c.talk.new.out) c.talk.result begun c.talk.ensures.talk

pub returns-in-Ok-clause-fault : goal.returns-in-Ok-clause-fault
returns-in-Ok-clause-fault g c =
    let opened = c.args.opened in
    let session = c.in-Ok.session in
    let begun : live_sessions.begins opened session =
    subst (λ hash. HasBegun opened.doc hash opened.state opened.reports session) c.as_str.ensures.value
    c.in-Ok.ensures in
    served_badly live_sessions opened session c.args.first.now
    (Rose (g.S.Source.faults c.args.source.now) (g.S.Source.faults c.talk.new.source))
    (Rose (g.K.Sink.faults c.args.out.now) (g.K.Sink.faults c.talk.new.out)) (g.S.Source.left c.args.source.now)
    (g.S.Source.left c.talk.new.source) (g.K.Sink.taken c.args.out.now) (g.K.Sink.taken c.talk.new.out)
    c.talk.result begun c.talk.ensures.fault

pub returns-clause-fault : goal.returns-clause-fault
returns-clause-fault g c =
    unbegun live_sessions c.args.opened c.args.first.now
    (Rose (g.S.Source.faults c.args.source.now) (g.S.Source.faults c.args.source.now))
    (Rose (g.K.Sink.faults c.args.out.now) (g.K.Sink.faults c.args.out.now)) (g.S.Source.left c.args.source.now)
    (g.K.Sink.taken c.args.out.now)
