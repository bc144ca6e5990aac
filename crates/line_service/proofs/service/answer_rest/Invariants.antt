use Rattle.std.proofs.Common.{◌≤◌, length}
use Rattle.line_service.specs.Answered.{Conversation}
use Rattle.line_service.specs.declared.server.Course.TheVariants.{GoesOn}
use Rattle.line_service.proofs.service.answer_rest.Given as goal

abbrev pub invariant-loop-piece : goal.invariant-loop-piece
invariant-loop-piece g l =
    (c : Conversation g.L.LineServer.answers l.initial.server l.initial.begun.items l.server l.begun.items GoesOn
    (g.S.Source.left l.initial.source) (g.S.Source.left l.source) (g.K.Sink.taken l.initial.out) (g.K.Sink.taken l.out))
    × (l._piece ≤ length c.heard)
    × (g.S.Source.faults l.initial.source ≤ g.S.Source.faults l.source)
    × (g.K.Sink.faults l.initial.out ≤ g.K.Sink.faults l.out)
