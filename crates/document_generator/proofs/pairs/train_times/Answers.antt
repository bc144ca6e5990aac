use Rattle.std.proofs.Common.{◌∙◌, ap, sym}
use Rattle.document_generator.specs.Draws.{next_draw}
use Rattle.document_generator.proofs.Loops.{time_next, draw_next}
use Rattle.document_generator.proofs.pairs.train_times.Goals as goal

pub loop-step-preserved : goal.loop-step-preserved
loop-step-preserved c = record {
  listed = time_next _ _ _ _ _ _ c.loop-step.invariant.listed c.loop-step.invariant.drawn c.draw.ensures.drawn c.in_ok-push.ensures.items;
  drawn = c.draw.ensures.last ∙ ap next_draw c.loop-step.invariant.drawn ∙ sym (draw_next c.loop-step._step c.args.draws.now);
}
