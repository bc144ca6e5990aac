use Rattle.ats_io.specs.Faults.{Rose}
use Rattle.line_service.proofs.Conversations.{last_breaks, session_breaks, session_done}
use Rattle.line_service.proofs.ServedBytes.{rose_later}
use Rattle.line_service.proofs.service.serve_lines.Goals as goal

pub returns-in-Ok-clause-session : goal.returns-in-Ok-clause-session
returns-in-Ok-clause-session g c =
    session_done g.L.LineServer.answers g.L.LineServer.last c.args.server.now _ c.args.first.now _ _ _ _ _
    c.say_last.result c.in-Ok.ensures.done c.say_last.ensures.done

pub returns-in-Ok-clause-fault : goal.returns-in-Ok-clause-fault
returns-in-Ok-clause-fault g c =
    last_breaks g.L.LineServer.answers g.L.LineServer.last c.args.server.now _ c.args.first.now
    (Rose (g.S.Source.faults c.args.source.now) (g.S.Source.faults c.answer_lines.new.source)) _ _ _ _ _ _ _
    c.say_last.result c.in-Ok.ensures.done
    (rose_later _ _ _ c.answer_lines.ensures.sink_never_falls) c.say_last.ensures.fault

pub returns-in-Err-clause-fault : goal.returns-in-Err-clause-fault
returns-in-Err-clause-fault g c =
    session_breaks g.L.LineServer.answers g.L.LineServer.last c.args.server.now c.args.first.now
    (Rose (g.S.Source.faults c.args.source.now) (g.S.Source.faults c.answer_lines.new.source))
    (Rose (g.K.Sink.faults c.args.out.now) (g.K.Sink.faults c.answer_lines.new.out)) _ _ _ _ c.in-Err.fault
    c.in-Err.ensures.fault
