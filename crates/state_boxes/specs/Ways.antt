-- Where other trains may stand in a train's way.
use Rattle.std.specs.Prelude.{◌≡◌, ◌≢◌, ◌<◌, ◌+◌, ◌==◌, ℕ, zero, suc, nat_le, Bool, not, ◌&&◌, if◌then◌else◌, List, [], ◌∷◌, ◌++◌, Some, slice_index_or}
use Rattle.rail_model.specs.Table.{Table, IsTable, trains, last, point}
use Rattle.rail_model.specs.Certificate.{Range, range, IsIn}
use Rattle.rail_model.specs.Checks.{same_point}
use Rattle.state_boxes.specs.declared.ways.Spot.{Spot}
use Rattle.state_boxes.specs.Each.{IsEach}
use Rattle.state_boxes.specs.Places.{IsAhead}

-- whether the point of train j at the place b is q
abbrev pub is_at : Table → ℕ → ℕ → ℕ → Bool
is_at T q j b = same_point (point T j b) (Some q)

-- the places of train j below n with the point q, in order
abbrev pub column : Table → ℕ → ℕ → ℕ → List Spot
column T q j zero = []
column T q j (suc b) = column T q j b ++ (if is_at T q j b then record { train = j; place = b } ∷ [] else [])

-- those of the trains below n, train by train
abbrev pub spots : Table → ℕ → ℕ → List Spot
spots T q zero = []
spots T q (suc j) = spots T q j ++ column T q j (last T j + 1)

-- For each point the spots at it. Points are below 512.
pub record AreWays (T : Table) (ways : List (List Spot)) : Type 0 where
  pub formed : IsTable T
  pub each_point : IsEach (λ q row. row ≡ spots T q (trains T)) 512 [] ways

-- The new rows are the old ones with some spots of each point after them.
abbrev pub AreLonger : (ℕ → List Spot) → List (List Spot) → List (List Spot) → Type 0
AreLonger more old new = IsEach (λ q row. row ≡ slice_index_or old q [] ++ more q) 512 [] new

-- whether the spot is in the range of its train
abbrev pub is_covered : List Range → Spot → Bool
is_covered B s = nat_le (range B s.train).lo s.place && nat_le s.place (range B s.train).hi

-- whether the spot is one of another train than i, in that train's range
abbrev pub is_rival : List Range → ℕ → Spot → Bool
is_rival B i s = not (s.train == i) && is_covered B s

-- Train j is another one and may stand at the point after the place a of train i.
abbrev pub IsInWay : Table → List Range → ℕ → ℕ → ℕ → Type 0
IsInWay T B i a j = (j < trains T) × (j ≢ i) × IsAhead T B i j a

-- Train j is another one below n, and stands at the point q at some place of its range.
abbrev pub MayStand : Table → List Range → ℕ → ℕ → ℕ → ℕ → Type 0
MayStand T B i q n j = (j < n) × (j ≢ i) × ((b : ℕ) × IsIn b (range B j) × (point T j b ≡ Some q))
