use Rattle.live_yard.specs.Answers.{Asks, Wants}
use Rattle.live_yard.proofs.Granting.{asks_grants, at_next, wants_grants}
use Rattle.live_yard.proofs.laws.grants_where_it_may.Goals as goal

pub returns-clause-asks : goal.returns-clause-asks
returns-clause-asks c =
    λ v w i named reply at next may. asks_grants v w i reply (at_next v i named reply w (Asks v i reply w) next at) may

pub returns-clause-wants : goal.returns-clause-wants
returns-clause-wants c =
    λ v w i named reply at next may. wants_grants v w i reply
    (at_next v i named reply w (Wants v i reply w) next at) may
