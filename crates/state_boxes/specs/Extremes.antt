-- The rows of shares that the check looks up: by section, by span of places, by train.
use Rattle.std.specs.Prelude.{◌≡◌, ℕ, ◌+◌, ◌-◌, ◌*◌, ◌<◌, ◌≤◌, ℤ, pos, List, [], ◌∷◌, length, slice_index_or}
use Rattle.std.specs.Int.{int_min, int_max}
use Rattle.rail_model.specs.Sums.{least, greatest}
use Rattle.rail_model.specs.Table.{Table, IsTable, trains, last, share}
use Rattle.state_boxes.specs.declared.extremes.Extremes.{Extremes}
use Rattle.state_boxes.specs.Each.{IsEach}

abbrev pub nothing : Extremes
nothing = record { least = pos 0; greatest = pos 0 }

-- the extremes of one share
abbrev pub single : ℤ → Extremes
single share = record { least = share; greatest = share }

-- the extremes of two spans together
abbrev pub joined : Extremes → Extremes → Extremes
joined a b = record { least = int_min a.least b.least; greatest = int_max a.greatest b.greatest }

-- The least and the greatest of f at the places lo to lo + n.
pub record IsExtremes (f : ℕ → ℤ) (lo n : ℕ) (e : Extremes) : Type 0 where
  pub least_is : e.least ≡ least f lo n
  pub greatest_is : e.greatest ≡ greatest f lo n

-- For each section the extremes of train i's shares at the places lo to lo + n.
abbrev pub IsRow : Table → ℕ → ℕ → ℕ → List Extremes → Type 0
IsRow T i lo n row = IsEach (λ s e. IsExtremes (share T i s) lo n e) (length T.sections) nothing row

-- Cell by cell the extremes of two rows together.
abbrev pub IsJoinedRow : List Extremes → List Extremes → List Extremes → Type 0
IsJoinedRow first second row =
    IsEach (λ s e. e ≡ joined (slice_index_or first s nothing) (slice_index_or second s nothing)) (length first) nothing row

-- The rows of spans of this many places.
pub record Level : Type 0 where
  pub width : ℕ
  pub rows : List (List Extremes)

abbrev pub no_level : Level
no_level = record { width = 0; rows = [] }

abbrev pub level_at : List Level → ℕ → Level
level_at levels l = slice_index_or levels l no_level

-- A row for each span of this many places of train i.
pub record IsLevel (T : Table) (i : ℕ) (L : Level) : Type 0 where
  pub some_places : 1 ≤ L.width
  pub fits : L.width ≤ last T i + 1
  pub each_row : IsEach (λ lo row. IsRow T i lo (L.width - 1) row) (last T i + 2 - L.width) [] L.rows

-- Levels of single places, of two, of four, and so on.
pub record IsGrowing (T : Table) (i : ℕ) (levels : List Level) : Type 0 where
  pub each_level : (l : ℕ) → l < length levels → IsLevel T i (level_at levels l)
  pub some_level : 0 < length levels
  pub single : (level_at levels 0).width ≡ 1
  pub doubled : (l : ℕ) → l + 1 < length levels → (level_at levels (l + 1)).width ≡ 2 * (level_at levels l).width
  pub few : length levels ≤ (level_at levels (length levels - 1)).width

-- The levels go as far as the train's places.
pub record IsLevels (T : Table) (i : ℕ) (levels : List Level) : Type 0 where
  pub growing : IsGrowing T i levels
  pub widest : last T i + 1 < 2 * (level_at levels (length levels - 1)).width

-- Two spans of this level cover any span of `more` + 1 places.
pub record IsPick (levels : List Level) (more picked : ℕ) : Type 0 where
  pub there : picked < length levels
  pub within : (level_at levels picked).width ≤ more + 1
  pub covers : more + 1 ≤ 2 * (level_at levels picked).width

-- Train i has no share of the section at any place.
abbrev pub IsQuiet : Table → ℕ → ℕ → Type 0
IsQuiet T i s = (k : ℕ) → k ≤ last T i → share T i s k ≡ pos 0

-- Of the numbers from one on, up to `to`, these are listed in order, and all others fit P.
abbrev pub AreListed : (ℕ → Type 0) → ℕ → ℕ → List ℕ → Type 0
AreListed P from to [] = (from ≤ to) × ((k : ℕ) → from ≤ k → k < to → P k)
AreListed P from to (x ∷ later) = (from ≤ x) × (x < to) × ((k : ℕ) → from ≤ k → k < x → P k) × AreListed P (x + 1) to later

-- Of the sections from one number on, up to `to`, these and no others may have a share of train i, in order.
abbrev pub AreShared : Table → ℕ → ℕ → ℕ → List ℕ → Type 0
AreShared T i from to xs = AreListed (IsQuiet T i) from to xs

-- Of the trains from one number on, up to `to`, these and no others may have a share of the section, in order.
abbrev pub AreMembers : Table → ℕ → ℕ → ℕ → List ℕ → Type 0
AreMembers T s from to xs = AreListed (λ i. IsQuiet T i s) from to xs

-- The levels of a train, by the length of a span the level to take, and the sections that the train may have a share of.
pub record TrainShares : Type 0 where
  pub levels : List Level
  pub picks : List ℕ
  pub sections : List ℕ

abbrev pub no_shares : TrainShares
no_shares = record { levels = []; picks = []; sections = [] }

pub record IsTrainShares (T : Table) (i : ℕ) (S : TrainShares) : Type 0 where
  pub formed : IsTable T
  pub levels : IsLevels T i S.levels
  pub picks : IsEach (λ more picked. IsPick S.levels more picked) (last T i + 1) 0 S.picks
  pub sections : AreShared T i 0 (length T.sections) S.sections

-- The shares of all trains.
abbrev pub IsShares : Table → List TrainShares → Type 0
IsShares T shares = IsEach (λ i S. IsTrainShares T i S) (trains T) no_shares shares
