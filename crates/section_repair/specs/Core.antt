-- The core of a state in which no train can move: the least group of trains that wait for none but one another.
use Rattle.std.specs.Prelude.{ℕ, zero, suc, ◌==◌, nat_le, pos, int_lt, List, [], ◌∷◌, length, map, filter, find, Bool, false, not, ◌&&◌, ◌||◌, unwrap_or}
use Rattle.std.specs.List.{list_any, list_all}
use Rattle.rail_model.specs.declared.types.Ask.{Ask}
use Rattle.rail_model.specs.declared.types.Ask.TheVariants.{Occupied, Full}
use Rattle.rail_model.specs.Table.{Table, trains, last, place, share}
use Rattle.rail_model.specs.Checks.{below, ask}

-- Whether train i waits for train j: for the occupant of its next point, or for each other train with a share of the
-- section that has no room.
abbrev pub waits_for : Table → List ℕ → ℕ → ℕ → Bool
waits_for T p i j = elim (ask T p i) [
  | Occupied by ↦ j == by
  | Full s n ↦ not (j == i) && int_lt (pos 0) (share T j s (place p j))
  | _ ↦ false
]

-- whether the train is in the group
abbrev pub has : List ℕ → ℕ → Bool
has group i = list_any (λ j. j == i) group

-- whether a train of the group waits for train j
abbrev pub is_waited_for : Table → List ℕ → List ℕ → ℕ → Bool
is_waited_for T p group j = list_any (λ i. waits_for T p i j) group

-- the answer to each train's request
abbrev pub asks : Table → List ℕ → List Ask
asks T p = map (ask T p) (below (trains T))

-- whether the train is in the group, or a member waits for it
abbrev pub is_drawn_in : Table → List ℕ → List ℕ → ℕ → Bool
is_drawn_in T p group j = has group j || is_waited_for T p group j

-- these trains and all that they wait for, in order
abbrev pub widened : Table → List ℕ → List ℕ → List ℕ
widened T p group = filter (is_drawn_in T p group) (below (trains T))

abbrev pub widened_times : Table → List ℕ → ℕ → List ℕ → List ℕ
widened_times T p zero group = group
widened_times T p (suc n) group = widened_times T p n (widened T p group)

-- the least group that holds the train and, with each member, all that it waits for, in order
abbrev pub closure : Table → List ℕ → ℕ → List ℕ
closure T p i = widened_times T p (trains T) (i ∷ [])

-- whether the train isn't at its last place
abbrev pub is_unfinished : Table → List ℕ → ℕ → Bool
is_unfinished T p i = not (place p i == last T i)

-- the closures of the unfinished trains, in order
abbrev pub closures : Table → List ℕ → List (List ℕ)
closures T p = map (closure T p) (filter (is_unfinished T p) (below (trains T)))

-- whether none of the groups has fewer members
abbrev pub is_smallest : List (List ℕ) → List ℕ → Bool
is_smallest groups c = list_all (λ d. nat_le (length c) (length d)) groups

-- the first of the groups that has the fewest members; none of no groups
abbrev pub smallest : List (List ℕ) → List ℕ
smallest groups = unwrap_or (find (is_smallest groups) groups) []

-- the first of the closures that has the fewest members
abbrev pub core : Table → List ℕ → List ℕ
core T p = smallest (closures T p)
