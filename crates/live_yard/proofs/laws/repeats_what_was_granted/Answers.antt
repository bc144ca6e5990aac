use Rattle.live_yard.specs.Answers.{Asks, Wants}
use Rattle.live_yard.proofs.Repeating.{repeats}
use Rattle.live_yard.proofs.laws.repeats_what_was_granted.Goals as goal

pub returns-clause-asks : goal.returns-clause-asks
returns-clause-asks c = λ v w i k n reply is within at was. repeats v w i k n reply (Asks v i reply w) is within at was

pub returns-clause-wants : goal.returns-clause-wants
returns-clause-wants c =
    λ v w i k n reply is within at was. repeats v w i k n reply (Wants v i reply w) is within at was
