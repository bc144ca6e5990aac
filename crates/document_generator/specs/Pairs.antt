-- Pairs of trains, each with a row of loops of its own, and their travel times.
use Rattle.std.specs.Prelude.{ℕ, zero, suc, ◌+◌, ◌-◌, ◌*◌, ◌/◌, ◌%◌, ◌<◌, ◌≤◌, min, max, List, [], ◌∷◌, map}
use Rattle.rail_model.specs.Checks.{below}
use Rattle.document_generator.specs.Draws.{next_draw, draw, drawn_of}

-- Its number, the number of its first point, its loops, and the travel times of each of its trains.
pub record Pair : Type 0 where
  pub number : ℕ
  pub first : ℕ
  pub loops : ℕ
  pub times : List (List ℕ)

-- The number, the first point and the loops of a pair among at most 16, each of at most 8 loops.
pub record IsLoopPair (g q c : ℕ) : Type 0 where
  pub number : g < 16
  pub first : q ≤ 400
  pub loops : c ≤ 8

-- one train's travel times, drawn after x: each is 1 to 9
abbrev pub times_from : ℕ → ℕ → List ℕ
times_from steps x = map (λ k. 1 + draw (k + 1) x % 9) (below steps)

-- the travel times of a number of trains, train by train
abbrev pub times_of : ℕ → ℕ → ℕ → List (List ℕ)
times_of trains steps x = map (λ t. times_from steps (draw (t * steps) x)) (below trains)

-- how many loops a pair has, drawn after x
abbrev pub loops_after : ℕ → ℕ
loops_after x = 1 + next_draw x % 8

-- the pair of this number and first point with a number of trains, drawn after x
abbrev pub pair_after : ℕ → ℕ → ℕ → ℕ → Pair
pair_after number first trains x =
    record { number = number; first = first; loops = loops_after x; times = times_of trains (2 * loops_after x) (next_draw x) }

-- what is drawn last for such a pair
abbrev pub last_draw : ℕ → ℕ → ℕ
last_draw trains x = draw (trains * (2 * loops_after x)) (next_draw x)

-- a number of further pairs, for the trains that are left
abbrev pub pairs_from : ℕ → ℕ → ℕ → ℕ → ℕ → List Pair
pairs_from zero number first left x = []
pairs_from (suc n) number first left x =
    pair_after number first (min left 2) x
    ∷ pairs_from n (number + 1) (first + (3 * loops_after x + 1)) (left - min left 2) (last_draw (min left 2) x)

-- how many pairs there are for a number of trains: at least one
abbrev pub pair_count : ℕ → ℕ
pair_count trains = max ((trains + 1) / 2) 1

-- all pairs of a seed, for a number of trains
abbrev pub all_pairs : ℕ → ℕ → List Pair
all_pairs seed trains = pairs_from (pair_count trains) 0 0 trains (drawn_of seed)
