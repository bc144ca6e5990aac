-- Worked rows: what trains wait for, and when.
use Rattle.std.proofs.Common.{◌≡◌, ◌++◌, ℕ, [], ◌∷◌, List, String, Some, None, Bool, true, false, string_bytes, ap, refl}
use Rattle.std.specs.Prelude.{Option, codes, pos}
use Rattle.std.specs.Str.{chars}
use Rattle.std.specs.declared.alloc.Global.{Global}
use Rattle.rail_model.specs.Checks.{ask}
use Rattle.rail_model.specs.Names.{Names}
use Rattle.rail_model.specs.Table.{Mission, Table}
use Rattle.run_timetable.specs.declared.rows.Row.{Row}
use Rattle.run_timetable.specs.declared.run.Step.{Step}
use Rattle.run_timetable.specs.declared.run.Takeover.{Takeover}
use Rattle.state_sentences.specs.Sections.{called_words}
use Rattle.wait_causes.specs.Before.{steps_before, table_before}
use Rattle.wait_causes.specs.Causes.{at_words, cause_words, connection_words, next_point_name, room_words}
use Rattle.wait_causes.specs.Waits.{departures_at}

-- ---- words

abbrev names : Names
names = record { points = codes "A" ∷ codes "B" ∷ codes "C" ∷ codes "D" ∷ []; trains = codes "T0" ∷ codes "T1" ∷ [] }

abbrev from_to : ℕ → ℕ → Bool → Mission
from_to a b exits = record { points = a ∷ b ∷ []; exits = exits }

-- what T0 waits for at its first place, under a table whose sections have these names, with T1 at a place
abbrev cause : List (String Global) → Table → ℕ → Option (List ℕ)
cause S T k = cause_words names S T (0 ∷ k ∷ []) 0 (ask T (0 ∷ k ∷ []) 0)

-- T0 goes from A to B, and T1 from B to C
abbrev following : Table
following = record { missions = from_to 0 1 false ∷ from_to 1 2 false ∷ []; sections = []; connections = [] }

for_a_train : cause [] following 0 ≡ Some (codes "for T1 at B")
unfolding at_words next_point_name
for_a_train = refl

-- T1 is at C, so T0 may go
for_nothing : cause [] following 1 ≡ None
for_nothing = refl

-- one of them may be at its second place, by the section: T0 goes from A to B, and T1 from C to D
abbrev single : Table
single = record {
  missions = from_to 0 1 false ∷ from_to 2 3 false ∷ [];
  sections = record { limit = 1; changes = (pos 0 ∷ pos 1 ∷ []) ∷ (pos 0 ∷ pos 1 ∷ []) ∷ [] } ∷ [];
  connections = [];
}

for_room : (name : String Global) → string_bytes name ≡ codes "crossing" → cause (name ∷ []) single 1 ≡ Some (codes "for room in section \"crossing\"")
unfolding room_words chars lib.Utf8.encode
for_room name is = ap (λ bytes. Some (codes "for room in " ++ called_words 0 bytes)) is

-- T0 may not leave A before T1 has made its way from C, to D or out of the layout
abbrev connected : Bool → ℕ → Table
connected exits reached = record {
  missions = from_to 0 1 false ∷ from_to 2 3 exits ∷ [];
  sections = [];
  connections = record { train = 0; place = 0; other = 1; reached = reached } ∷ [];
}

for_a_point : cause [] (connected false 1) 0 ≡ Some (codes "for T1 to come to D")
unfolding connection_words
for_a_point = refl

for_leaving : cause [] (connected true 2) 1 ≡ Some (codes "for T1 to leave the layout")
unfolding connection_words
for_leaving = refl

-- ---- when a tick begins

-- table 1 takes over at tick 2, and table 2 at tick 5
abbrev takeovers : List Takeover
takeovers = record { tick = 2; table = 1 } ∷ record { tick = 5; table = 2 } ∷ []

at_the_takeover : table_before takeovers 2 ≡ 0
at_the_takeover = refl

after_one_takeover : table_before takeovers 5 ≡ 1
after_one_takeover = refl

after_both : table_before takeovers 6 ≡ 2
after_both = refl

abbrev step : ℕ → ℕ → Step
step tick train = record { tick = tick; train = train; from = 0; to = None; takes = 1 }

-- T1 steps at ticks 3 and 7
one_step : steps_before (step 3 1 ∷ step 3 0 ∷ step 7 1 ∷ []) 1 7 ≡ 1
one_step = refl

-- ---- waits

abbrev row : Option ℕ → Option ℕ → Row
row arrives leaves = record { train = 1; point = Some 0; arrives = arrives; leaves = leaves }

waits_two_ticks : departures_at (row (Some 3) (Some 5)) ≡ record { train = 1; leaves = 5 } ∷ []
waits_two_ticks = refl

waits_at_first : departures_at (row None (Some 2)) ≡ record { train = 1; leaves = 2 } ∷ []
waits_at_first = refl

goes_on : departures_at (row (Some 3) (Some 3)) ≡ []
goes_on = refl

stays : departures_at (row (Some 3) None) ≡ []
stays = refl
