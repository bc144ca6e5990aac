-- The knot of a state: trains that keep one another where they are.
use Rattle.std.specs.Prelude.{ℕ, List, [], ◌∷◌}
use Rattle.rail_model.specs.Table.{Table}
use Rattle.state_core.specs.Core.{IsCore}
use Rattle.state_core.specs.Least.{IsLeastCore}

-- The list is a least core of the state; or it is empty, and the state has no core.
abbrev pub IsKnotOrNone : Table → List ℕ → List ℕ → Type 0
IsKnotOrNone T p [] = (group : List ℕ) → IsCore T p group → ⊥
IsKnotOrNone T p (i ∷ later) = IsLeastCore T p (i ∷ later)
