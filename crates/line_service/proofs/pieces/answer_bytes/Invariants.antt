use Rattle.std.proofs.Common.{◌≡◌, take}
use Rattle.line_service.specs.declared.server.Course.TheVariants.{GoesOn}
use Rattle.line_service.specs.Lines.{heard_from}
use Rattle.line_service.specs.Answered.{HasAnswered}
use Rattle.line_service.proofs.pieces.answer_bytes.Given as goal

abbrev pub invariant-loop-byte : goal.invariant-loop-byte
invariant-loop-byte g l = record {
  answered : HasAnswered g.L.LineServer.answers l.initial.server l.initial.begun.items
      (take l.byte-index l.piece) l.server GoesOn l.initial.text.items l.text.items;
  begun : l.begun.items ≡ (heard_from l.initial.begun.items (take l.byte-index l.piece)).begun;
}
