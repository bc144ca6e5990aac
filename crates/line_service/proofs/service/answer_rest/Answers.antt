use Rattle.line_service.proofs.Conversations.{breaks_on, comes_last, comes_more}
use Rattle.line_service.proofs.ServedBytes.{rose_later}
use Rattle.std.proofs.Common.{arith}
use Rattle.line_service.proofs.service.answer_rest.Goals as goal

pub returns-in-Ok-Ends-clause-done : goal.returns-in-Ok-Ends-clause-done
returns-in-Ok-Ends-clause-done g c =
    comes_last g.L.LineServer.answers g.L.LineServer.last _ _ _ _ _ _ _ _ _ _ _ _ _ c.loop-piece.invariant.0
    c.in-Ok-Ends.field-0-is c.in-Ok-Ends.ensures.flush

pub returns-in-Err-clause-fault : goal.returns-in-Err-clause-fault
returns-in-Err-clause-fault g c =
    breaks_on g.L.LineServer.answers g.L.LineServer.last _ _ _ _ _ _ _ _ _ _ _ _ _ _ c.in-Err.fault
    c.loop-piece.invariant.0
    (rose_later _ _ _ c.loop-piece.invariant.2) (rose_later _ _ _ c.loop-piece.invariant.3) c.in-Err.ensures.fault

pub loop-piece-preserved : goal.loop-piece-preserved
loop-piece-preserved g c =
    let more = comes_more g.L.LineServer.answers g.L.LineServer.last _ _ _ _ _ _ _ _ _ _ _ _ _ _
    c.loop-piece.invariant.0 c.loop-piece.invariant.1
    c.in-Ok-GoesOn.field-0-is c.in-Ok-GoesOn.ensures.flush in (
      more.0,
      more.1,
      omega (arith, c.loop-piece.invariant.2, c.answer_next.ensures.source_never_falls),
      omega
          (arith, c.loop-piece.invariant.3, c.answer_next.ensures.sink_never_falls),
    )
