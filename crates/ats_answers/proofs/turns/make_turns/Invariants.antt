use Rattle.std.proofs.Common.{◌≡◌, ◌-◌}
use Rattle.zone_machine.specs.Sound.{Sound}
use Rattle.document_generator.specs.Draws.{drawn_of}
use Rattle.ats_answers.specs.Weaving.{drawn_world}
use Rattle.ats_answers.proofs.turns.make_turns.Given as goal

abbrev pub invariant-loop-turn : goal.invariant-loop-turn
invariant-loop-turn g l =
    (l.core.setup ≡ l.fn.core.setup) × Sound l.core.setup l.core.world
    × (drawn_world l.fn.core.setup l.trains (l.turns - l._turn) l.draws l.core.world ≡ drawn_world l.fn.core.setup l.trains l.turns (drawn_of l.seed) l.fn.core.world)
