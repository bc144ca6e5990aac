-- Levels of points: how far it is at least from a point to a goal, by steps of trains above a train.
use Rattle.std.specs.Prelude.{◌≡◌, ℕ, ◌+◌, ◌<◌, ◌≤◌, List, length, All, Contains, slice_index, Some}
use Rattle.rail_model.specs.Table.{Mission}
use Rattle.ring_sections.specs.declared.levels.Step.{Step}
use Rattle.ring_sections.specs.Ring.{Pair, point_at, next_point}
use Rattle.ring_sections.specs.Search.{ArePointsBelow, standing_at, standing}

-- It is the step of some pair.
abbrev pub IsStep : List Mission → Step → Type 0
IsStep M s = (w : Pair) × (point_at M w ≡ Some s.from) × (next_point M w ≡ Some s.to)

-- One of the steps is between the same points, by the same train or a later one.
abbrev pub IsStepMade : List Step → Step → Type 0
IsStepMade steps s = (t : Step) × Contains steps t × (t.from ≡ s.from) × (t.to ≡ s.to) × (s.train ≤ t.train)

-- So it is with the step of a pair from a point, if the pair wants a point.
abbrev pub MakesStep : List Mission → List Step → ℕ → Pair → Type 0
MakesStep M steps q w = (b : ℕ) → next_point M w ≡ Some b → IsStepMade steps (record { train = w.0; from = q; to = b })

-- The steps between all points below n, not each of them by every train.
pub record AreStepsBelow (M : List Mission) (n : ℕ) (steps : List Step) : Type 0 where
  pub are_steps : All (IsStep M) steps
  pub all : (q : ℕ) → q < n → All (MakesStep M steps q) (standing_at M q)

-- The step's points are below n.
abbrev pub IsStepBelow : ℕ → Step → Type 0
IsStepBelow n s = (s.from < n) × (s.to < n)

-- A step of a train above the given one goes down by one level at most.
abbrev pub IsSettled : ℕ → List ℕ → Step → Type 0
IsSettled above levels s = above < s.train → slice_index levels s.from ≤ slice_index levels s.to + 1

-- The first pair's point has level 0, and a step of a later train goes down by one level at most.
pub record AreLevels (M : List Mission) (first : Pair) (levels : List ℕ) : Type 0 where
  pub goal : (q : ℕ) → point_at M first ≡ Some q → slice_index levels q ≡ 0
  pub steps : (w : Pair) (a b : ℕ) → first.0 < w.0 → w.0 < length M → point_at M w ≡ Some a → next_point M w ≡ Some b
      → slice_index levels a ≤ slice_index levels b + 1

-- What a search from a first pair looks at: few trains, of which all points have a level, and of each it is known which pairs are there.
pub record IsChart (M : List Mission) (here : List (List Pair)) (high : List ℕ) (first : Pair) : Type 0 where
  pub trains : length M ≤ 32
  pub points : ArePointsBelow M (length high)
  pub places : here ≡ standing M (length high)
  pub levels : AreLevels M first high
