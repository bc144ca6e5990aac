use Rattle.std.proofs.Common.{◌+◌, arith}
use Rattle.std.proofs.lemmas.List.{length-take}
use Rattle.ats_io.proofs.Taking.{takes_all, takes_more, within_room}
use Rattle.ats_io.proofs.whole.read_all.Goals as goal

pub returns-in_err-extend_from_slice-clause-at_most : goal.returns-in_err-extend_from_slice-clause-at_most
returns-in_err-extend_from_slice-clause-at_most g c =
    let read = c.in_ok-count.ensures in
    let kept = c.read.auto.buf in
    takes_more _ _ _ _ _ _ _ c.loop-piece.invariant.read read.given
    (within_room _ _ _ _ _ _ _ _ _ _ c.loop-piece.bytes.ok.0 c.len.ensures c.loop-piece-test.true c.len-in-loop-piece.ensures c.min-room.ensures kept read.within)

pub returns-then-count-eq0-clause-bytes : goal.returns-then-count-eq0-clause-bytes
returns-then-count-eq0-clause-bytes g c =
    let read = c.in_ok-count.ensures in
    let none = c.if-count-eq0.true in
    let kept = c.read.auto.buf in
    takes_all _ _ _ _ _ _ c.loop-piece.invariant.read read.given none (read.end none (omega (arith, kept, length-take (c.min-room.result + 1) c.loop-piece.piece)))

pub returns-clause-cause : goal.returns-clause-cause
returns-clause-cause g c = λ e. absurd (cc e)
