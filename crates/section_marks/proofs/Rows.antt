-- Worked rows: the corridor, long trains, a waiting train, and each refusal once.
use Rattle.std.proofs.Common.{◌≡◌, ℕ, ℤ, pos, negsuc, false, List, [], ◌∷◌, Some, Ok, Err, refl, arith}
use Rattle.std.proofs.lemmas.Int.{ints}
use Rattle.rail_model.specs.Table.{Mission, Section, Table, AreMissions}
use Rattle.rail_model.proofs.MissionTests.{missions_pass}
use Rattle.section_marks.specs.declared.marks.Marks.TheVariants.{One, Four}
use Rattle.section_marks.specs.declared.refused.MarkRefused.TheVariants.{TooMany, Limit, Count, Step, Share, Connections, ConnectionTrain, ConnectionPlace}
use Rattle.section_marks.specs.Keeping.{KeepsTo}
use Rattle.section_marks.specs.Marking.{too_many, bad_limit, table_from}
use Rattle.section_marks.specs.Connecting.{too_many as too_many_connections, connected}
use Rattle.section_marks.proofs.SectionsTaken.{sections_taken}

-- the first path A B C
abbrev path : List Mission
path = record { points = 0 ∷ 1 ∷ 2 ∷ []; exits = false } ∷ []

-- one section of the first path
abbrev one : ℕ → List ℤ → List Section
one limit changes = record { limit = limit; changes = changes ∷ [] } ∷ []

-- the corridor A M N B against C N M D
abbrev corridor : List Mission
corridor = record { points = 0 ∷ 1 ∷ 2 ∷ 3 ∷ []; exits = false } ∷ record { points = 4 ∷ 2 ∷ 1 ∷ 5 ∷ []; exits = false } ∷ []

abbrev single : List Section
single = record { limit = 1; changes = (pos 0 ∷ pos 1 ∷ pos 0 ∷ negsuc 0 ∷ []) ∷ (pos 0 ∷ pos 1 ∷ pos 0 ∷ negsuc 0 ∷ []) ∷ [] } ∷ []

corridor_marked : table_from One corridor single ≡ Ok (record { missions = corridor; sections = single; connections = [] })
unfolding table_from
corridor_marked = refl

-- a train that weighs 3 in a section
abbrev long : List Section
long = one 4 (pos 0 ∷ pos 3 ∷ negsuc 2 ∷ [])

abbrev long_table : Table
long_table = record { missions = path; sections = long; connections = [] }

-- it is taken where 4 is allowed
long_train : table_from Four path long ≡ Ok long_table
unfolding table_from
long_train = refl

too_long : table_from One path (one 1 (pos 0 ∷ pos 3 ∷ negsuc 2 ∷ [])) ≡ Err (Step 0 0 1 (pos 3))
unfolding table_from
too_long = refl

path_formed : AreMissions path
path_formed = missions_pass path refl

-- so its table keeps to 4, and it doesn't keep to 1
long_keeps : KeepsTo Four long_table
long_keeps = ((sections_taken Four path long long_table path_formed).0 long_train).2

long_is_too_long : KeepsTo One long_table → ⊥
long_is_too_long keeps = let low = keeps.shares 0 0 1 (omega arith) (omega arith) (omega arith) in omega (arith, ints)

many : too_many 65 ≡ Some (TooMany 65)
many = refl

high_limit : table_from One path (one 33 []) ≡ Err (Limit 0 33)
unfolding table_from
high_limit = refl

higher_limit : table_from Four path (one 33 (pos 0 ∷ pos 0 ∷ pos 0 ∷ [])) ≡ Ok (record { missions = path; sections = one 33 (pos 0 ∷ pos 0 ∷ pos 0 ∷ []); connections = [] })
unfolding table_from
higher_limit = refl

highest_limit : bad_limit Four 0 129 ≡ Some (Limit 0 129)
highest_limit = refl

missing_change : table_from One path (one 1 (pos 1 ∷ pos 0 ∷ [])) ≡ Err (Count 0 0)
unfolding table_from
missing_change = refl

missing_list : table_from One path (record { limit = 1; changes = [] } ∷ []) ≡ Err (Count 0 0)
unfolding table_from
missing_list = refl

list_too_many : table_from One path (record { limit = 1; changes = (pos 9 ∷ pos 0 ∷ pos 0 ∷ []) ∷ [] ∷ [] } ∷ []) ≡ Err (Count 0 1)
unfolding table_from
list_too_many = refl

share_above : table_from One path (one 1 (pos 1 ∷ pos 1 ∷ negsuc 0 ∷ [])) ≡ Err (Share 0 0 1 (pos 2))
unfolding table_from
share_above = refl

share_below : table_from Four path (one 1 (pos 0 ∷ negsuc 0 ∷ pos 1 ∷ [])) ≡ Err (Share 0 0 1 (negsuc 0))
unfolding table_from
share_below = refl

-- the places of a section come before the next section's limit
section_by_section : table_from One path (record { limit = 1; changes = (pos 1 ∷ pos 1 ∷ negsuc 0 ∷ []) ∷ [] } ∷ record { limit = 33; changes = [] } ∷ []) ≡ Err (Share 0 0 1 (pos 2))
unfolding table_from
section_by_section = refl

-- two trains, A B and C D
abbrev two : Table
two = record {
  missions = record { points = 0 ∷ 1 ∷ []; exits = false } ∷ record { points = 2 ∷ 3 ∷ []; exits = false } ∷ [];
  sections = [];
  connections = [];
}

waiting_train : connected two (record { train = 0; place = 0; other = 1; reached = 1 } ∷ [])
    ≡ Ok (record two { connections = record { train = 0; place = 0; other = 1; reached = 1 } ∷ [] })
unfolding connected
waiting_train = refl

many_connections : too_many_connections 33 ≡ Some (Connections 33)
many_connections = refl

no_train : connected two (record { train = 0; place = 0; other = 2; reached = 0 } ∷ []) ≡ Err (ConnectionTrain 0)
unfolding connected
no_train = refl

itself : connected two (record { train = 0; place = 0; other = 1; reached = 1 } ∷ record { train = 0; place = 5; other = 0; reached = 5 } ∷ []) ≡ Err (ConnectionTrain 1)
unfolding connected
itself = refl

last_place : connected two (record { train = 0; place = 1; other = 1; reached = 1 } ∷ []) ≡ Err (ConnectionPlace 0)
unfolding connected
last_place = refl

too_far : connected two (record { train = 0; place = 0; other = 1; reached = 2 } ∷ []) ≡ Err (ConnectionPlace 0)
unfolding connected
too_far = refl
