-- The core of a state: trains that keep one another where they are.
use Rattle.std.specs.Prelude.{◌≡◌, ◌⊎◌, ◌↔◌, length, IsTrue, ℕ, ◌+◌, ◌<◌, ◌==◌, nat_lt, pos, ◌+ℤ◌, ◌<ℤ◌, int_lt, ℤ, List, Bool, not, ◌&&◌, ◌||◌, if◌then◌else◌, Some, slice_get}
use Rattle.std.specs.List.{list_any}
use Rattle.rail_model.specs.Sums.{total_below}
use Rattle.rail_model.specs.Table.{Table, Connection, IsTable, trains, last, limit, change, share, place}
use Rattle.rail_model.specs.State.{Arrived}
use Rattle.rail_model.specs.Move.{Blocks, Run, Stuck}
use Rattle.rail_model.specs.Checks.{below, blocks, is_held_by}

-- whether the train is in the group
abbrev pub has : List ℕ → ℕ → Bool
has group i = list_any (λ j. j == i) group

-- what a section counts of the group's trains alone
abbrev pub count_within : Table → List ℕ → ℕ → List ℕ → ℤ
count_within T group s p = total_below (λ j. if has group j then share T j s (place p j) else pos 0) (trains T)

-- A train of the group stands at the next point of train i.
abbrev pub IsBlockedWithin : Table → List ℕ → List ℕ → ℕ → Type 0
IsBlockedWithin T p group i = (j : ℕ) × IsTrue (has group j) × Blocks T p i j

-- A section that rises at the next place of train i has no room for it beside the shares of the group.
abbrev pub IsShutWithin : Table → List ℕ → List ℕ → ℕ → Type 0
IsShutWithin T p group i =
    (s : ℕ) × (s < length T.sections)
    × (pos 0 <ℤ change T i s (place p i + 1))
    × (pos (limit T s) <ℤ (count_within T group s p +ℤ change T i s (place p i + 1)))

-- A connection holds train i until a train of the group is further.
abbrev pub IsHeldWithin : Table → List ℕ → List ℕ → ℕ → Type 0
IsHeldWithin T p group i =
    (c : ℕ) × (k : Connection) × (slice_get T.connections c ≡ Some k)
    × (k.train ≡ i) × (k.place ≡ place p i) × (place p k.other < k.reached) × IsTrue (has group k.other)

-- The group keeps train i where it is.
abbrev pub IsKept : Table → List ℕ → List ℕ → ℕ → Type 0
IsKept T p group i = IsBlockedWithin T p group i ⊎ IsShutWithin T p group i ⊎ IsHeldWithin T p group i

-- The group has a train that hasn't arrived, and keeps each such train of it where it is. A train that has arrived may
-- belong to it as one that never moves.
pub record IsCore (T : Table) (p group : List ℕ) : Type 0 where
  pub unfinished : (i : ℕ) × (i < trains T) × IsTrue (has group i) × (place p i < last T i)
  pub kept : (i : ℕ) → i < trains T → IsTrue (has group i) → place p i < last T i → IsKept T p group i

-- Some run leads from the state to one where all trains have arrived.
abbrev pub CanArrive : Table → List ℕ → Type 0
CanArrive T p = (l : List ℕ) × (q : List ℕ) × Run T p l q × Arrived T q

-- ---- the same as tests

-- whether the train isn't at its last place
abbrev pub is_unfinished : Table → List ℕ → ℕ → Bool
is_unfinished T p i = nat_lt (place p i) (last T i)

abbrev pub is_blocked_within : Table → List ℕ → List ℕ → ℕ → Bool
is_blocked_within T p group i = list_any (λ j. has group j && blocks T p i j) (below (trains T))

-- whether this section shuts train i out
abbrev pub shuts : Table → List ℕ → List ℕ → ℕ → ℕ → Bool
shuts T p group i s =
    int_lt (pos 0) (change T i s (place p i + 1))
    && int_lt (pos (limit T s)) (count_within T group s p +ℤ change T i s (place p i + 1))

abbrev pub is_shut_within : Table → List ℕ → List ℕ → ℕ → Bool
is_shut_within T p group i = list_any (shuts T p group i) (below (length T.sections))

abbrev pub is_held_within : Table → List ℕ → List ℕ → ℕ → Bool
is_held_within T p group i = list_any (λ k. is_held_by p i k && has group k.other) T.connections

abbrev pub is_kept : Table → List ℕ → List ℕ → ℕ → Bool
is_kept T p group i = is_blocked_within T p group i || (is_shut_within T p group i || is_held_within T p group i)

-- whether train i is one of the group that may go on some day
abbrev pub is_loose : Table → List ℕ → List ℕ → ℕ → Bool
is_loose T p group i = (has group i && is_unfinished T p i) && not (is_kept T p group i)

abbrev pub is_core : Table → List ℕ → List ℕ → Bool
is_core T p group =
    list_any (λ i. has group i && is_unfinished T p i) (below (trains T))
    && not (list_any (is_loose T p group) (below (trains T)))

-- ---- what is so of cores

-- The test says what the definition says.
abbrev pub CoreIsTested : Type 0
CoreIsTested = (T : Table) (p group : List ℕ) → IsTrue (is_core T p group) ↔ IsCore T p group

-- No run moves a train of a core.
abbrev pub CoresStay : Type 0
CoresStay =
    (T : Table) (p group l q : List ℕ) (i : ℕ) → IsTable T → IsCore T p group → Run T p l q →
    i < trains T → IsTrue (has group i) → place q i ≡ place p i

-- From a state that has a core not all trains can arrive.
abbrev pub CoresAreLost : Type 0
CoresAreLost = (T : Table) (p group : List ℕ) → IsTable T → IsCore T p group → CanArrive T p → ⊥

-- All trains of a stuck state are a core of it.
abbrev pub StuckStatesHaveCores : Type 0
StuckStatesHaveCores = (T : Table) (p : List ℕ) → IsTable T → Stuck T p → IsCore T p (below (trains T))
