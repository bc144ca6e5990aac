use Rattle.std.proofs.Common.{◌++◌, ◌∙◌, arith, length-append}
use Rattle.std.proofs.lemmas.Bool.{false≢true}
use Rattle.std.proofs.KnownBytes.{Consumes-trans}
use Rattle.live_header.proofs.ReadPieces.{after_piece, unread_piece}
use Rattle.live_header.proofs.reading.read_header.Goals as goal

pub loop-heard-preserved : goal.loop-heard-preserved
loop-heard-preserved g c =
    let front = c.loop-heard.invariant in
    let more = c.in-Ok.ensures.heard in (
      front.0 ++ more.0,
      Consumes-trans _ _ _ front.0 more.0 front.1 more.1,
      after_piece _ _ _ front.0 more.0 front.2 more.2,
      length-append front.0 more.0 ∙ (omega (arith, front.3, more.3)),
      omega (arith, front.4, c.in-Ok.ensures.within, c.loop-heard-test.true),
      omega (arith, front.5, c.read_piece.ensures.never_falls),
    )

pub returns-in-Err-clause-unread : goal.returns-in-Err-clause-unread
returns-in-Err-clause-unread g c =
    let front = c.loop-heard.invariant in
    unread_piece _ _ front.0 _ _ _ _ _ _ c.in-Err.fault front.1 front.2
    (λ is. absurd (false≢true (c.if-is_whole.ensures.1 is)))
    (λ rose. omega (arith, front.5, rose)) c.in-Err.ensures.unread
