-- Worked rows: pairs beside one another, and the rings that begin with some.
use Rattle.std.proofs.Common.{◌≡◌, ℕ, zero, suc, ◌<◌, List, [], ◌∷◌, false, true, refl, lit<, arith}
use Rattle.rail_model.specs.Table.{Mission}
use Rattle.ring_sections.specs.Ring.{pair_at}
use Rattle.ring_sections.specs.Search.{IsTrainPlace, WantsPointOf, AreApart, IsPlaced, stands_at, standing_at, standing, ArePointsBelow, IsPointTaken, fits, own_ring, rings_from}
use Rattle.ring_sections.proofs.PointBounds.{low_points}
use Rattle.ring_sections.proofs.RingRows.{uneven, ring}

-- T1 has places 0 to 4, and its last is none of a pair
is_pair : IsTrainPlace uneven (1, 3)
is_pair = (lit< tt, lit< tt)

last_is_none : IsTrainPlace uneven (1, 4) → ⊥
last_is_none pair = omega (arith, pair.1)

waits_for : WantsPointOf uneven (0, 1) (1, 2)
waits_for = (2, refl, refl)

-- a place earlier T1 has another point
waits_not : WantsPointOf uneven (0, 1) (1, 1) → ⊥
waits_not w = let wants = w.1 in let stands = w.2 in cc

are_apart : AreApart uneven (0, 1) (1, 2)
are_apart = (λ same. cc, λ q here there. cc)

-- T0 and T1 both at point 2
one_point : AreApart uneven (0, 2) (1, 2) → ⊥
one_point apart = apart.1 2 refl refl

one_train : AreApart uneven (0, 1) (0, 2) → ⊥
one_train apart = apart.0 refl

is_placed : IsPlaced uneven ring 1
is_placed = record { waits = (1, refl, refl); least_first = λ some. lit< tt; apart = apart }
  where
    apart : (j : ℕ) → j < 1 → AreApart uneven (pair_at ring j) (1, 2)
    apart zero lt = are_apart
    apart (suc j) lt = absurd (omega (arith, lt))

stands : stands_at uneven 2 (1, 2) ≡ true
stands = refl

stands_not : stands_at uneven 1 (1, 2) ≡ false
stands_not = refl

at_2 : standing_at uneven 2 ≡ (0, 2) ∷ (1, 2) ∷ []
at_2 = refl

below_3 : standing uneven 3 ≡ ((0, 0) ∷ []) ∷ ((0, 1) ∷ (1, 3) ∷ []) ∷ ((0, 2) ∷ (1, 2) ∷ []) ∷ []
below_3 = refl

abbrev pub short : List Mission
short = (record { points = 2 ∷ 5 ∷ []; exits = false }) ∷ (record { points = 4 ∷ []; exits = false }) ∷ []

points_below_6 : ArePointsBelow short 6
points_below_6 zero k q e = low_points (2 ∷ 5 ∷ []) 6 k q refl e
points_below_6 (suc zero) k q e = low_points (4 ∷ []) 6 k q refl e
points_below_6 (suc (suc i)) k q e = absurd cc

not_below_5 : ArePointsBelow short 5 → ⊥
not_below_5 low = let less : 5 < 5 = low 0 1 5 refl in omega arith

is_taken : IsPointTaken uneven ring 2
is_taken = (1, lit< tt, refl)

-- a greater train than the first, and none of these
fits_behind : fits ((1, 0) ∷ (3, 2) ∷ []) (2, 5) ≡ true
fits_behind = refl

same_train : fits ((1, 0) ∷ (3, 2) ∷ []) (3, 5) ≡ false
same_train = refl

lesser_train : fits ((1, 0) ∷ (3, 2) ∷ []) (0, 5) ≡ false
lesser_train = refl

own : own_ring uneven ring ≡ ring ∷ []
own = refl

own_none : own_ring uneven ((0, 1) ∷ []) ≡ []
own_none = refl

from_T0 : rings_from uneven ((0, 1) ∷ []) 1 ≡ ring ∷ []
from_T0 = refl

no_pair_more : rings_from uneven ((0, 1) ∷ []) 0 ≡ []
no_pair_more = refl
