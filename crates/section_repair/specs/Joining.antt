-- Sections that forbid some stays: of a core, and of two sections that join on.
use Rattle.std.specs.Prelude.{ℕ, zero, suc, ◌+◌, ◌==◌, min, max, List, [], ◌∷◌, ◌++◌, length, map, zip, remove, count_by, slice_index_or, Bool, not, ◌&&◌, ◌||◌, Some, None}
use Rattle.std.specs.List.{list_all, position_from}
use Rattle.rail_model.specs.Table.{place}
use Rattle.forbidden_states.specs.Forbid.{Stay}

-- these trains, each at its place alone
abbrev pub stays_of : List ℕ → List ℕ → List Stay
stays_of p trains = map (λ i. record { train = i; range = record { lo = place p i; hi = place p i } }) trains

-- whether the two stays are of one train
abbrev pub is_same_train : Stay → Stay → Bool
is_same_train a b = a.train == b.train

-- whether the two ranges are equal
abbrev pub is_same_range : Stay → Stay → Bool
is_same_range a b = (a.range.lo == b.range.lo) && (a.range.hi == b.range.hi)

-- whether one range begins directly after the other
abbrev pub adjoins : Stay → Stay → Bool
adjoins a b = (a.range.hi + 1 == b.range.lo) || (b.range.hi + 1 == a.range.lo)

-- whether each stay is of the same train as the one beside it
abbrev pub are_alike : List Stay → List Stay → Bool
are_alike a b = list_all (λ x. is_same_train x.0 x.1) (zip a b)

-- whether the sections are of the same trains
abbrev pub are_same_trains : List Stay → List Stay → Bool
are_same_trains a b = (length a == length b) && are_alike a b

-- how many trains have other ranges in one section than in the other
abbrev pub differences : List Stay → List Stay → ℕ
differences a b = count_by (λ x. not (is_same_range x.0 x.1)) (zip a b)

-- whether each train's ranges are equal or join on without a gap
abbrev pub are_without_gap : List Stay → List Stay → Bool
are_without_gap a b = list_all (λ x. is_same_range x.0 x.1 || adjoins x.0 x.1) (zip a b)

-- whether the sections have the same trains, and the same ranges but for one, and that one's join on without a gap
abbrev pub joins : List Stay → List Stay → Bool
joins a b = are_same_trains a b && (differences a b == 1) && are_without_gap a b

-- the train of both, from the lower start to the higher end
abbrev pub hull : Stay → Stay → Stay
hull a b = record { train = a.train; range = record { lo = min a.range.lo b.range.lo; hi = max a.range.hi b.range.hi } }

-- each train of both, from the lower start to the higher end
abbrev pub union : List Stay → List Stay → List Stay
union a b = map (λ x. hull x.0 x.1) (zip a b)

-- The last section joins with the first that it can, again and again. Each time there is one less, so `turns` need
-- not pass the number of the others.
abbrev pub settled_in : ℕ → List (List Stay) → List Stay → List (List Stay)
settled_in zero others b = others ++ b ∷ []
settled_in (suc turns) others b = elim (position_from (λ a. joins a b) 0 others) [
  | None ↦ others ++ b ∷ []
  | Some k ↦ settled_in turns (remove others k) (union (slice_index_or others k []) b)
]

abbrev pub settled : List (List Stay) → List Stay → List (List Stay)
settled others b = settled_in (length others) others b
