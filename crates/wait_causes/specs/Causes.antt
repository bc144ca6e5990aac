-- What a train waits for, in words.
use Rattle.std.specs.Prelude.{◌≡◌, ◌⊎◌, ℕ, ◌+◌, ◌-◌, ◌<◌, ◌++◌, List, [], codes, IsSome, option_map, Option, Some, None, String, Vec, slice_get, unwrap_or}
use Rattle.std.specs.Option.{option_map_or}
use Rattle.std.specs.declared.alloc.Global.{Global}
use Rattle.rail_model.specs.declared.types.Ask.{Ask}
use Rattle.rail_model.specs.declared.types.Ask.TheVariants.{Yes, Arrived as AtEnd, Occupied, Full, Waits}
use Rattle.rail_model.specs.Move.{Answers}
use Rattle.rail_model.specs.Names.{Names, train_name}
use Rattle.rail_model.specs.State.{Legal}
use Rattle.rail_model.specs.Table.{Connection, Table, place, trains}
use Rattle.document_json.specs.Doc.{Doc, names_of, table_at}
use Rattle.run_timetable.specs.declared.run.Run.{Run}
use Rattle.state_sentences.specs.Named.{name_at}
use Rattle.state_sentences.specs.Sections.{section_words}
use Rattle.wait_causes.specs.Before.{positions_before, table_before}

-- ---- words

-- the name of the next point of train i; no letters, where it has none
unfoldable pub next_point_name : Names → Table → List ℕ → ℕ → List ℕ
next_point_name N T p i = unwrap_or (name_at N T i (place p i + 1)) []

-- where a train has to go: to a point, or out of the layout
abbrev pub going_words : Option (List ℕ) → List ℕ
going_words (Some point) = codes " to come to " ++ point
going_words None = codes " to leave the layout"

-- for a train at a point
unfoldable pub at_words : List ℕ → List ℕ → List ℕ
at_words name point = codes "for " ++ name ++ codes " at " ++ point

-- for the train that stands at the next point of train i
abbrev pub occupied_words : Names → Table → List ℕ → ℕ → ℕ → List ℕ
occupied_words N T p i by = at_words (train_name N by) (next_point_name N T p i)

-- for room in a section
unfoldable pub room_words : List (String Global) → ℕ → List ℕ
room_words S s = codes "for room in " ++ section_words S s

-- for the other train of a connection, which isn't far enough
unfoldable pub connection_words : Names → Table → Connection → List ℕ
connection_words N T k = codes "for " ++ train_name N k.other ++ going_words (name_at N T k.other k.reached)

-- what train i waits for, by what it is told that asks to move: nothing, if it may go or has arrived
abbrev pub cause_words : Names → List (String Global) → Table → List ℕ → ℕ → Ask → Option (List ℕ)
cause_words N S T p i Yes = None
cause_words N S T p i AtEnd = None
cause_words N S T p i (Occupied by) = Some (occupied_words N T p i by)
cause_words N S T p i (Full s n) = Some (room_words S s)
cause_words N S T p i (Waits c) = option_map (connection_words N T) (slice_get T.connections c)

-- ---- what trains are told

-- Train i is told whether it may move: it is one of the table's trains, and the state is legal.
abbrev pub IsTold : Table → List ℕ → ℕ → Type 0
IsTold T p i = (i < trains T) × Legal T p

-- What train i waits for in a state, by what it is told; nothing, if it isn't told anything.
abbrev pub IsCauseIn : Names → List (String Global) → Table → List ℕ → ℕ → Option (List ℕ) → Type 0
IsCauseIn N S T p i cause =
    (IsTold T p i × ((told : Ask) × Answers T p i told × (cause ≡ cause_words N S T p i told)))
    ⊎ ((IsTold T p i → ⊥) × (cause ≡ None))

-- the names of the sections of a table, of those of all tables; none, if there are none of that table
abbrev pub names_under : List (Vec (String Global) Global) → ℕ → List (String Global)
names_under S t = option_map_or (λ v. v.items) (slice_get S t) []

-- The same in the state in which a tick begins, under the table in force. A number that no table has stands for a table without trains.
abbrev pub IsCauseAt : Doc → List (Vec (String Global) Global) → Run → ℕ → ℕ → Option (List ℕ) → Type 0
IsCauseAt D S run tick i cause =
    let t = table_before run.takeovers.items tick in
    IsCauseIn (names_of D) (names_under S t) (table_at D t) (positions_before D run tick) i cause

-- What train i waits for that leaves at a tick: what it waits for when that tick begins; if it waits for nothing then, what it waited for one tick before.
abbrev pub IsCause : Doc → List (Vec (String Global) Global) → Run → ℕ → ℕ → Option (List ℕ) → Type 0
IsCause D S run i leaves cause =
    (IsSome cause × IsCauseAt D S run leaves i cause)
    ⊎ (IsCauseAt D S run leaves i None × IsCauseAt D S run (leaves - 1) i cause)
