-- Ways that lead back: pairs that close a circular wait, and what is known of those that don't.
use Rattle.std.specs.Prelude.{◌≡◌, ◌≢◌, ◌⊎◌, ℕ, ◌+◌, ◌<◌, ◌≤◌, List, [], ◌∷◌, length, All, Contains, Some, true, ◌==◌, cond}
use Rattle.std.specs.Int.{bit_at}
use Rattle.rail_model.specs.Table.{Mission}
use Rattle.ring_sections.specs.declared.train_set.TrainSet.{TrainSet}
use Rattle.ring_sections.specs.declared.leading.Reach.{Reach}
use Rattle.ring_sections.specs.Ring.{Pair, pair_at, point_at, next_point}
use Rattle.ring_sections.specs.Search.{IsTrainPlace, IsPointTaken, fits}

-- The train is in the set.
abbrev pub HasTrain : TrainSet → ℕ → Type 0
HasTrain s i = bit_at s.bits i ≡ 1

-- The pairs are of no train of the set.
abbrev pub Avoids : TrainSet → List Pair → Type 0
Avoids s later = All (λ w. HasTrain s w.0 → ⊥) later

-- how many of the pairs are of no train of the set
abbrev pub count_outside : TrainSet → List Pair → ℕ
count_outside s [] = 0
count_outside s (w ∷ later) = cond (bit_at s.bits w.0 == 1) 0 1 + count_outside s later

-- The pair may be at the point after these pairs: none of them takes it, and it isn't shut.
pub record MayBeAt (M : List Mission) (way : List Pair) (shut q : ℕ) (w : Pair) : Type 0 where
  pub pair : IsTrainPlace M w
  pub stands : point_at M w ≡ Some q
  pub fits : fits way w ≡ true
  pub free : IsPointTaken M way q → ⊥
  pub open_point : q ≢ shut

-- The later pairs, of different trains, lead from a point to that of the first pair: each wants the point of the next.
abbrev pub LeadsBack : List Mission → List Pair → ℕ → ℕ → List Pair → Type 0
LeadsBack M way shut q [] = point_at M (pair_at way 0) ≡ Some q
LeadsBack M way shut q (w ∷ later) =
    MayBeAt M way shut q w × All (λ v. v.0 ≢ w.0) later × ((b : ℕ) × (next_point M w ≡ Some b) × LeadsBack M way shut b later)

-- No way leads back from the point with at most as many pairs as are left, none of them of a used train.
abbrev pub IsLost : List Mission → List Pair → ℕ → Reach → Type 0
IsLost M way shut from = (later : List Pair) → length later ≤ from.left → LeadsBack M way shut from.point later → Avoids from.used later → ⊥

-- No such way begins with this pair.
abbrev pub IsLostBy : List Mission → List Pair → ℕ → Reach → Pair → Type 0
IsLostBy M way shut from w = (later : List Pair) → length later < from.left → LeadsBack M way shut from.point (w ∷ later) → Avoids from.used (w ∷ later) → ⊥

-- It is reached by the pair: at the next point, with a pair fewer left, and with no train that wasn't used but the pair's.
pub record IsBehind (M : List Mission) (from : Reach) (w : Pair) (behind : Reach) : Type 0 where
  pub point : next_point M w ≡ Some behind.point
  pub left : behind.left + 1 ≡ from.left
  pub used : (i : ℕ) → HasTrain behind.used i → HasTrain from.used i ⊎ (i ≡ w.0)

-- It is at the same point, with as many pairs left or more.
abbrev pub IsFurther : Reach → Reach → Type 0
IsFurther from other = (other.point ≡ from.point) × (from.left ≤ other.left)

-- One that is known, at the same point and with as many pairs left or more, has exactly the used trains.
abbrev pub IsKnown : List Reach → Reach → TrainSet → Type 0
IsKnown known from used = (other : Reach) × Contains known other × IsFurther from other × (other.used ≡ used)

-- Take pairs that avoid the used trains, at most n of them of trains that aren't hit: they also avoid the used trains of
-- some known one that is further.
abbrev pub IsCovered : List Reach → Reach → TrainSet → ℕ → Type 0
IsCovered known from hit n = (later : List Pair) → count_outside hit later ≤ n → Avoids from.used later →
    (other : Reach) × Contains known other × IsFurther from other × Avoids other.used later
