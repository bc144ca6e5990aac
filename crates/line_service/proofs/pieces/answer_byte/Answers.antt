use Rattle.line_service.proofs.AnsweredPieces.{answered_newline}
use Rattle.line_service.proofs.pieces.answer_byte.Goals as goal

pub returns-then-byte-eq-NEWLINE-clause-answers : goal.returns-then-byte-eq-NEWLINE-clause-answers
returns-then-byte-eq-NEWLINE-clause-answers g c = answered_newline _ _ _ _ _ _ _ _ c.if-byte-eq-NEWLINE.true
    c.answer_line.ensures.answer
