use Rattle.std.proofs.Common.{below_more}
use Rattle.std.proofs.lemmas.Option.{MatchOption-at_none}
use Rattle.state_sentences.proofs.circles.first_circle.Goals as goal

pub loop-first-preserved : goal.loop-first-preserved
loop-first-preserved c = below_more _ _ c.loop-first.invariant (MatchOption-at_none _ _ c.in-None.is c.in_ok-found.ensures)
