-- The first cause why a state is not legal.
use Rattle.std.specs.Prelude.{◌≡◌, ◌≢◌, ℕ, pos, List, length}
use Rattle.rail_model.specs.Table.{Table, trains, limit, count}
use Rattle.rail_model.specs.State.{StandsAt}
use Rattle.rail_model.specs.Move.{IsFirst, IsOver}
use Rattle.legal_state.specs.declared.judges.Illegal.{Illegal}
use Rattle.legal_state.specs.declared.judges.Illegal.TheVariants.{Length, Range, Clash, Over}
use Rattle.legal_state.specs.Causes.{IsOut, IsInRange, SharesPoint, HasPair}

-- First the number of positions, then the least train out of range, then the least pair at one point, then the least section over its limit.
abbrev pub IsIllegal : Table → List ℕ → Illegal → Type 0
IsIllegal T p (Length n) = (n ≡ length p) × (length p ≢ trains T)
IsIllegal T p (Range i) = (length p ≡ trains T) × IsFirst (IsOut T p) i
IsIllegal T p (Clash i k q) =
    (length p ≡ trains T) × IsInRange T p × IsFirst (HasPair T p) i × IsFirst (SharesPoint T p i) k × StandsAt T p i q
IsIllegal T p (Over s n l) =
    (length p ≡ trains T) × IsInRange T p × ((i : ℕ) → HasPair T p i → ⊥)
    × IsFirst (IsOver T p) s × (count T s p ≡ pos n) × (l ≡ limit T s)
