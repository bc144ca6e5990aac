use Rattle.ats_io.specs.Faults.{Rose}
use Rattle.line_service.proofs.ServedBytes.{rose_later}
use Rattle.dispatch_run.proofs.Talks.{stops_talking}
use Rattle.dispatch_run.proofs.session.converse.Goals as goal

pub returns-in-Ok-clause-fault : goal.returns-in-Ok-clause-fault
returns-in-Ok-clause-fault g c =
    stops_talking g.L.LineServer.answers g.L.LineServer.last c.args.server.now c.args.ready.now c.args.first.now
    (Rose (g.S.Source.faults c.args.source.now) (g.S.Source.faults c.serve_lines.new.source)) _ _ _ _ _ _ _
    c.serve_lines.result
    c.in-Ok.ensures.all (rose_later _ _ _ c.write_all.ensures.never_falls) c.serve_lines.ensures.fault
