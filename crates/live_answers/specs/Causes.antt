-- The trains that a train waits for.
use Rattle.std.specs.Prelude.{ℕ, zero, suc, pos, int_lt, List, [], ◌∷◌, ◌++◌, Bool, true, false, Option, Some, None}
use Rattle.std.specs.Prelude.{slice_get, if◌then◌else◌}
use Rattle.rail_model.specs.Table.{Connection, trains, place, share}
use Rattle.live_yard.specs.declared.told.Told.{Told}
use Rattle.live_yard.specs.declared.told.Told.TheVariants.{May, Arrived, Occupied, Full, Waits, Away, Leaving, Clearing}
use Rattle.live_yard.specs.Telling.{greatest_of}
use Rattle.live_answers.specs.Seen.{Seen}

-- whether train j counts in a section
abbrev pub counts_in : Seen → ℕ → ℕ → Bool
counts_in v s j = int_lt (pos 0) (share v.table j s (place v.positions j))

-- whether train j counts in a section with more than where it is, since it hasn't reported that it is out of it
abbrev pub still_counts : Seen → ℕ → ℕ → Bool
still_counts v s j = int_lt (share v.table j s (place v.positions j)) (greatest_of v.table v.positions v.reported s j)

-- whether train j counts in a section; with `still`, with more than where it is
abbrev pub counting : Seen → ℕ → Bool → ℕ → Bool
counting v s true = still_counts v s
counting v s false = counts_in v s

-- the numbers below n that are chosen, in order
abbrev pub chosen : (ℕ → Bool) → ℕ → List ℕ
chosen f zero = []
chosen f (suc n) = chosen f n ++ (if f n then n ∷ [] else [])

-- the train that a connection waits for
abbrev pub awaited : Option Connection → List ℕ
awaited (Some k) = k.other ∷ []
awaited None = []

-- the trains that a train waits for that was told this
abbrev pub in_the_way : Seen → Told → List ℕ
in_the_way v May = []
in_the_way v Arrived = []
in_the_way v (Occupied by) = by ∷ []
in_the_way v (Full s n) = chosen (counts_in v s) (trains v.table)
in_the_way v (Waits c) = awaited (slice_get v.table.connections c)
in_the_way v Away = []
in_the_way v (Leaving by) = by ∷ []
in_the_way v (Clearing s n) = chosen (still_counts v s) (trains v.table)
