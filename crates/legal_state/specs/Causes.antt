-- What makes a state illegal: a train past its end, two trains at one point.
use Rattle.std.specs.Prelude.{ℕ, ◌<◌, ◌≤◌, List}
use Rattle.rail_model.specs.Table.{Table, trains, last, place}
use Rattle.rail_model.specs.State.{StandsAt}

-- Train i is past its last place.
abbrev pub IsOut : Table → List ℕ → ℕ → Type 0
IsOut T p i = (i < trains T) × (last T i < place p i)

-- No train is past its last place.
abbrev pub IsInRange : Table → List ℕ → Type 0
IsInRange T p = (i : ℕ) → i < trains T → place p i ≤ last T i

-- A later train k has the point of train i.
abbrev pub SharesPoint : Table → List ℕ → ℕ → ℕ → Type 0
SharesPoint T p i k = (k < trains T) × (i < k) × ((q : ℕ) × StandsAt T p i q × StandsAt T p k q)

-- Some later train has the point of train i.
abbrev pub HasPair : Table → List ℕ → ℕ → Type 0
HasPair T p i = (k : ℕ) × SharesPoint T p i k
