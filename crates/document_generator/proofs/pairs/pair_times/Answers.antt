use Rattle.document_generator.proofs.Loops.{train_next, drawn_next}
use Rattle.document_generator.proofs.pairs.pair_times.Goals as goal

pub loop-train-preserved : goal.loop-train-preserved
loop-train-preserved c = record {
  listed = train_next _ _ _ _ _ _ _ c.loop-train.invariant.listed c.loop-train.invariant.drawn c.in_ok-train_times.ensures.times c.in_ok-push.ensures.items;
  drawn = drawn_next _ _ _ _ _ c.loop-train.invariant.drawn c.in_ok-train_times.ensures.drawn;
}
