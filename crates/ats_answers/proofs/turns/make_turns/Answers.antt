use Rattle.std.proofs.Common.{◌∙◌}
use Rattle.document_generator.specs.Draws.{drawn_of}
use Rattle.ats_answers.specs.Weaving.{drawn_world}
use Rattle.ats_answers.proofs.Turned.{turned_here}
use Rattle.ats_answers.proofs.turns.make_turns.Goals as goal

pub loop-turn-preserved : goal.loop-turn-preserved
loop-turn-preserved g c =
    let so_far = c.loop-turn.invariant in (
      c.make_turn.ensures.setup ∙ so_far.0,
      c.make_turn.ensures.sound,
      turned_here c.args.core.now.setup c.loop-turn.core.setup c.args.trains c.args.turns c.loop-turn._turn c.loop-turn.draws c.draw.result c.draw.new.self c.drawn_actor-actor.result
          c.loop-turn.core.world c.make_turn.new.core.world (drawn_world c.args.core.now.setup c.args.trains c.args.turns (drawn_of c.args.seed) c.args.core.now.world)
          c.loop-turn-test.true so_far.0 c.draw.ensures.drawn c.draw.ensures.last c.drawn_actor-actor.ensures so_far.2 c.make_turn.ensures.world,
    )
