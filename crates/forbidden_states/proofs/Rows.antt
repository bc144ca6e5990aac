-- Worked stays and their sections.
use Rattle.std.specs.Prelude.{◌≡◌, List, [], ◌∷◌, pos, negsuc, true, false, refl}
use Rattle.rail_model.specs.Table.{Mission}
use Rattle.forbidden_states.specs.Forbid.{Stay, marked}

-- a longer corridor: two trains that want through it from its ends
abbrev corridor : List Mission
corridor = (record { points = 0 ∷ 1 ∷ 2 ∷ 3 ∷ 4 ∷ []; exits = false }) ∷ (record { points = 5 ∷ 3 ∷ 2 ∷ 1 ∷ 6 ∷ []; exits = false }) ∷ []

-- the first train after the second
abbrev meeting : List Stay
meeting = (record { train = 0; range = record { lo = 1; hi = 1 } }) ∷ (record { train = 1; range = record { lo = 1; hi = 2 } }) ∷ []

corridor-section : (marked corridor (meeting ∷ [])).sections ≡ (record { limit = 1; changes = (pos 0 ∷ pos 1 ∷ negsuc 0 ∷ pos 0 ∷ pos 0 ∷ []) ∷ (pos 0 ∷ pos 1 ∷ pos 0 ∷ negsuc 0 ∷ pos 0 ∷ []) ∷ [] }) ∷ []
corridor-section = refl

-- a train that leaves the layout after its one point has two places; the other train has no stay
abbrev leaving : List Mission
leaving = (record { points = 0 ∷ []; exits = true }) ∷ (record { points = 1 ∷ 2 ∷ []; exits = false }) ∷ []

at_the_end : (marked leaving (((record { train = 0; range = record { lo = 1; hi = 1 } }) ∷ []) ∷ [])).sections ≡ (record { limit = 0; changes = (pos 0 ∷ pos 1 ∷ []) ∷ (pos 0 ∷ pos 0 ∷ []) ∷ [] }) ∷ []
at_the_end = refl
