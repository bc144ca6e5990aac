use Rattle.std.proofs.Common.{◌++◌, ℕ, List, subst}
use Rattle.std.specs.Prelude.{IfSome}
use Rattle.std.specs.Io.KnownBytes.{IsAtEnd}
use Rattle.ats_io.specs.Bytes.{Adds}
use Rattle.ats_io.specs.Faults.{Rose}
use Rattle.line_service.proofs.ServedBytes.{rose_later}
use Rattle.dispatch_run.specs.Dispatching.{BreaksOffServing, IsServed}
use Rattle.line_service.specs.Answered.{IsEndless}
use Rattle.std.proofs.Common.{◌⊎◌}
use Rattle.dispatch_run.proofs.Dispatches.{broken, dispatched}
use Rattle.dispatch_run.proofs.Runs.{runs}
use Rattle.dispatch_run.specs.LiveSessions.{live_sessions}
use Rattle.dispatch_run.proofs.top.serve.Goals as goal

pub returns-in-Ok-serve_session-clause-done : goal.returns-in-Ok-serve_session-clause-done
returns-in-Ok-serve_session-clause-done g c =
    let Q = live_sessions in
    let begun = c.in-Ok.field-0 in
    let heard = c.in-Ok.ensures.heard in
    let served = subst
    (λ bytes. IfSome (g.S.Source.left c.begin.new.source)
    (λ input. (written : List ℕ) × IsServed Q begun.opened (bytes ++ input) written
    × Adds (g.K.Sink.taken c.args.out.now) (g.K.Sink.taken c.serve_session.new.out) written))
    c.rest.ensures c.in-Ok-serve_session.ensures.served in
    runs c.args.document.items _ _ _
    (dispatched Q c.args.document.items heard.0 begun.header begun.opened _ _ _ _ heard.1 heard.2
    c.in-Ok.ensures.whole c.in-Ok.ensures.opened served)

pub returns-in-Ok-clause-cause : goal.returns-in-Ok-clause-cause
returns-in-Ok-clause-cause g c =
    let Q = live_sessions in
    let begun = c.in-Ok.field-0 in
    let heard = c.in-Ok.ensures.heard in
    let more = c.in-Err-serve_session.ensures.fault in
    let before = g.S.Source.faults c.args.source.now in
    let between = g.S.Source.faults c.begin.new.source in
    let after = g.S.Source.faults c.serve_session.new.source in
    let sink = Rose (g.K.Sink.faults c.args.out.now) (g.K.Sink.faults c.serve_session.new.out) in
    let breaks = subst
    (λ bytes. BreaksOffServing Q begun.opened (bytes ++ more.0) (Rose between after ⊎ IsEndless more.0) sink
    (g.K.Sink.taken c.args.out.now) (g.K.Sink.taken c.serve_session.new.out) c.in-Err-serve_session.fault)
    c.rest.ensures more.2 in
    broken Q c.args.document.items heard.0 more.0 begun.header begun.opened
    (IsAtEnd (g.S.Source.left c.serve_session.new.source)) (Rose before after)
    (Rose between after) sink _ _ _ _ _ c.in-Err-serve_session.fault heard.1 more.1 heard.2 c.in-Ok.ensures.whole
    c.in-Ok.ensures.opened
    (rose_later before between after c.begin.ensures.never_falls) breaks
