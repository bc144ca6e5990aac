use Rattle.std.proofs.Common.{◌++◌, ◌∷◌, []}
use Rattle.state_sentences.proofs.Walks.{IsWalk}
use Rattle.state_sentences.proofs.circles.circle_from.Given as goal

abbrev pub invariant-loop : goal.invariant-loop
invariant-loop l = IsWalk l.scene.table.now l.scene.state.now l.first l.counter (l.circle.items ++ l.train ∷ [])
