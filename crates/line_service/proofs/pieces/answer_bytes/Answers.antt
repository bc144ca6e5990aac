use Rattle.std.proofs.Common.{◌+◌}
use Rattle.line_service.proofs.AnsweredPieces.{answered_byte, answered_whole, begun_byte}
use Rattle.line_service.proofs.pieces.answer_bytes.Goals as goal

pub returns-in-Ends-clause-answers : goal.returns-in-Ends-clause-answers
returns-in-Ends-clause-answers g c =
    answered_whole _ _ _ _ _ (c.loop-byte.byte-index + 1) _ _
    (answered_byte _ _ _ _ _ _ _ _ _ _ _ _ _ c.loop-byte-test.true c.in-Ends.is c.loop-byte.invariant.answered
    c.loop-byte.invariant.begun c.in_ok-course.ensures.answers)

pub loop-byte-preserved : goal.loop-byte-preserved
loop-byte-preserved g c =
    record {
      answered = answered_byte _ _ _ _ _ _ _ _ _ _ _ _ _ c.loop-byte-test.true c.in_default.is
          c.loop-byte.invariant.answered c.loop-byte.invariant.begun
          c.in_ok-course.ensures.answers;
      begun = begun_byte _ _ _ _ _ c.loop-byte-test.true c.loop-byte.invariant.begun c.in_ok-course.ensures.begun;
    }
