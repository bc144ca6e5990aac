use Rattle.layout_picture.proofs.Coming.{ComesTo}
use Rattle.layout_picture.proofs.circles.is_in_circle.Given as goal

abbrev pub invariant-loop : goal.invariant-loop
invariant-loop l = ComesTo l.scene.table.now l.scene.state.now l.train l.counter l.last
