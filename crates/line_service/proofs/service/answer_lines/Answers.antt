use Rattle.line_service.proofs.Conversations.{lines_break, lines_done}
use Rattle.line_service.proofs.ServedBytes.{rose_later}
use Rattle.line_service.proofs.service.answer_lines.Goals as goal

pub returns-in-Ok-GoesOn-clause-done : goal.returns-in-Ok-GoesOn-clause-done
returns-in-Ok-GoesOn-clause-done g c =
    lines_done g.L.LineServer.answers g.L.LineServer.last c.args.server.now c.new-begun.result.items c.args.first.now
    _ _ _ _ _ _ _ _ _ _ c.answer_rest.result
    c.new-begun.ensures.items c.in-Ok-GoesOn.field-0-is c.in-Ok-GoesOn.ensures.flush c.in-Ok-GoesOn.ensures.begun
    c.answer_rest.ensures.done

pub returns-in-Ok-GoesOn-clause-fault : goal.returns-in-Ok-GoesOn-clause-fault
returns-in-Ok-GoesOn-clause-fault g c =
    lines_break g.L.LineServer.answers g.L.LineServer.last c.args.server.now c.new-begun.result.items
    c.args.first.now _ _ _ _ _ _ _ _ _ _ _ c.answer_rest.result
    c.new-begun.ensures.items c.in-Ok-GoesOn.field-0-is c.in-Ok-GoesOn.ensures.flush c.in-Ok-GoesOn.ensures.begun
    (rose_later _ _ _ c.answer_piece.ensures.never_falls) c.answer_rest.ensures.fault
