-- The sections of circular waits.
use Rattle.std.specs.Prelude.{◌≡◌, ℕ, List, map, Contains}
use Rattle.std.specs.List.{AllByRecursion}
use Rattle.rail_model.specs.Table.{Table, Mission, place}
use Rattle.rail_model.specs.State.{Legal}
use Rattle.forbidden_states.specs.Forbid.{Stay, marked}
use Rattle.ring_sections.specs.Ring.{Pair}

-- the ring's trains, each at its place alone
abbrev pub stays : List Pair → List Stay
stays r = map (λ w. record { train = w.0; range = record { lo = w.1; hi = w.1 } }) r

-- the missions with the sections of these rings
abbrev pub ring_table : List Mission → List (List Pair) → Table
ring_table M rs = marked M (map stays rs)

-- Each train of the ring is at its place.
abbrev pub HasRing : List ℕ → List Pair → Type 0
HasRing p r = AllByRecursion (λ w. place p w.0 ≡ w.1) r

-- No legal state of the table has one of these circular waits.
abbrev pub Excludes : Table → List (List Pair) → Type 0
Excludes T rs = (p : List ℕ) (r : List Pair) → Legal T p → Contains rs r → HasRing p r → ⊥
