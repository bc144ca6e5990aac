use Rattle.std.proofs.Common.{arith}
use Rattle.refusal_sentences.proofs.states.explain_places.Goals as goal

pub explain_positions-requires : goal.explain_positions-requires
explain_positions-requires c = omega arith
