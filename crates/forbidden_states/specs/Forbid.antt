-- Sections that forbid exactly the states in which all of some trains are in given ranges.
use Rattle.std.specs.Prelude.{◌≡◌, ℕ, ◌+◌, ◌-◌, ◌<◌, ◌≤◌, ◌==◌, ℤ, pos, negsuc, List, [], ◌∷◌, length, map, find, if◌then◌else◌, Option, Some, None}
use Rattle.rail_model.specs.Table.{Table, Mission, Section, mission, last, last_of, place}
use Rattle.rail_model.specs.Certificate.{Range, IsIn}
use Rattle.rail_model.specs.Checks.{below}

-- A train, and a range of its places.
pub record Stay : Type 0 where
  pub train : ℕ
  pub range : Range

-- the missions as a table without a section or a connection
abbrev pub unmarked : List Mission → Table
unmarked M = record { missions = M; sections = []; connections = [] }

-- the first stay of a train
abbrev pub stay_of : List Stay → ℕ → Option Stay
stay_of stays i = find (λ s. s.train == i) stays

-- by how much a share that is 1 in the range, and 0 elsewhere, rises at a place
abbrev pub change_of : Range → ℕ → ℤ
change_of r k = if k == r.lo then pos 1 else (if k == r.hi + 1 then negsuc 0 else pos 0)

-- the same for a train that may have a stay
abbrev pub change_at : Option Stay → ℕ → ℤ
change_at None k = pos 0
change_at (Some s) k = change_of s.range k

-- the changes of a train that may have a stay, one per place
abbrev pub changes_of : Mission → Option Stay → List ℤ
changes_of m stay = map (change_at stay) (below (last_of m + 1))

-- the changes of all trains
abbrev pub all_changes : List Mission → List Stay → List (List ℤ)
all_changes M stays = map (λ i. changes_of (mission (unmarked M) i) (stay_of stays i)) (below (length M))

-- all but one of them may be in their ranges at once
abbrev pub forbidding : List Mission → List Stay → Section
forbidding M stays = record { limit = length stays - 1; changes = all_changes M stays }

-- the missions with such a section for each list of stays
abbrev pub marked : List Mission → List (List Stay) → Table
marked M all = record { missions = M; sections = map (forbidding M) all; connections = [] }

-- The stays are of different trains below n, and no range is empty.
abbrev pub AreStays : ℕ → List Stay → Type 0
AreStays n [] = Unit {0}
AreStays n (s ∷ later) = (s.train < n) × (s.range.lo ≤ s.range.hi) × (stay_of later s.train ≡ None) × AreStays n later

-- All trains of the stays are in their ranges.
abbrev pub InStays : List ℕ → List Stay → Type 0
InStays p [] = Unit {0}
InStays p (s ∷ later) = IsIn (place p s.train) s.range × InStays p later

-- Every position is one of its train.
abbrev pub AreInRange : List Mission → List ℕ → Type 0
AreInRange M p = (i : ℕ) → i < length M → place p i ≤ last (unmarked M) i
