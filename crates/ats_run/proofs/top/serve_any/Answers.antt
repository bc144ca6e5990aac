use Rattle.ats_run.specs.Serving.{source_seen, sink_seen}
use Rattle.ats_run.proofs.Answered.{took_nothing, unread, wrote}
use Rattle.ats_run.proofs.top.serve_any.Goals as goal

pub returns-in_err-input : goal.returns-in_err-input
returns-in_err-input g c =
    let source = source_seen g.S.Source.left g.S.Source.faults c.args.source.now c.input_of.new.source in
    let sink = sink_seen g.K.Sink.taken g.K.Sink.faults c.args.out.now c.args.out.now in
    unread c.args.order source sink c.input_of.ensures.untouched c.input_of.ensures.at_most c.from_residual.result c.in_err-input.field-0.0
    c.from_residual.ensures.1 c.in_err-input.ensures.unread (took_nothing sink.now)

pub returns : goal.returns
returns g c =
    let source = source_seen g.S.Source.left g.S.Source.faults c.args.source.now c.input_of.new.source in
    let sink = sink_seen g.K.Sink.taken g.K.Sink.faults c.args.out.now c.write_answer.new.out in
    wrote c.args.order source sink c.input_of.ensures.untouched c.input_of.ensures.at_most _ _ c.deref.ensures.value c.in_ok-input.ensures.whole
    c.in_ok-input.ensures.input c.answer_by.result c.write_answer.result (λ text. text.items) c.answer_by.ensures c.write_answer.ensures.done
    c.write_answer.ensures.failed
