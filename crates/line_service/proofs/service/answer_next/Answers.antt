use Rattle.std.proofs.Common.{arith}
use Rattle.std.proofs.lemmas.List.{length-take}
use Rattle.line_service.proofs.Conversations.{piece_comes}
use Rattle.line_service.proofs.service.answer_next.Goals as goal

pub returns-in-Ok-clause-flush : goal.returns-in-Ok-clause-flush
returns-in-Ok-clause-flush g c =
    let count = c.in-Ok.count in
    piece_comes g.L.LineServer.answers g.L.LineServer.last _ _ _ _ _ _ _ _ _ c.answer_piece.result c.in-Ok.ensures.given
    (omega (arith, length-take count c.read.new.buf, c.in-Ok.ensures.within, c.in-Ok.count-test.1))
    c.answer_piece.ensures.flush c.answer_piece.ensures.begun
