-- Missions that the worked rows are about.
use Rattle.std.specs.Prelude.{ℕ, List, [], ◌∷◌, false}
use Rattle.rail_model.specs.Table.{Mission}
use Rattle.forbidden_states.specs.Forbid.{Stay}

abbrev pub stay : ℕ → ℕ → ℕ → Stay
stay i lo hi = record { train = i; range = record { lo = lo; hi = hi } }

-- a long corridor, from its two ends
abbrev pub long : List Mission
long = (record { points = 0 ∷ 1 ∷ 2 ∷ 3 ∷ 4 ∷ []; exits = false }) ∷ (record { points = 5 ∷ 3 ∷ 2 ∷ 1 ∷ 6 ∷ []; exits = false }) ∷ []

-- head-on between points 0 and 1
abbrev pub head_on : List Mission
head_on = (record { points = 0 ∷ 1 ∷ []; exits = false }) ∷ (record { points = 1 ∷ 0 ∷ []; exits = false }) ∷ []

-- T0 wants the start of T1, which is head-on with T2
abbrev pub follower : List Mission
follower = (record { points = 2 ∷ 0 ∷ []; exits = false }) ∷ (record { points = 0 ∷ 1 ∷ []; exits = false }) ∷ (record { points = 1 ∷ 0 ∷ []; exits = false }) ∷ []
