-- The waits of a run, each with its cause.
use Rattle.std.specs.Prelude.{◌≡◌, ℕ, List, [], ◌∷◌, flat_map, nat_lt, Bool, Option, Some, None, option_map, if◌then◌else◌, String, Vec, string_bytes, unwrap_or}
use Rattle.std.specs.List.{AllZip}
use Rattle.std.specs.declared.alloc.Global.{Global}
use Rattle.rail_model.specs.Checks.{below}
use Rattle.rail_model.specs.Move.{Move}
use Rattle.document_json.specs.Doc.{Doc, table_at}
use Rattle.run_timetable.specs.Timetable.{rows_in, trains_of, wait_of}
use Rattle.run_timetable.specs.declared.rows.Row.{Row}
use Rattle.run_timetable.specs.declared.run.Run.{Run}
use Rattle.wait_causes.specs.Before.{positions_before, table_before}
use Rattle.wait_causes.specs.Causes.{IsCause}
use Rattle.wait_causes.specs.declared.departures.Departure.{Departure}
use Rattle.wait_causes.specs.declared.wait.Wait.{Wait}

-- whether a train waits at the point of a row, for one tick or more
abbrev pub is_wait : Row → Bool
is_wait row = nat_lt 0 (unwrap_or (wait_of row) 0)

-- the departure of train i at a tick, if there is one
abbrev pub departure_of : ℕ → Option ℕ → List Departure
departure_of i None = []
departure_of i (Some leaves) = record { train = i; leaves = leaves } ∷ []

-- the departure from the point of a row, if the train waits there
abbrev pub departures_at : Row → List Departure
departures_at row = if is_wait row then departure_of row.train row.leaves else []

-- the departures of train i from the points at which it waits
abbrev pub departures_in : Run → ℕ → List Departure
departures_in run i = flat_map departures_at (rows_in run i)

-- those of all trains, train by train
abbrev pub departures : Run → List Departure
departures run = flat_map (departures_in run) (below (trains_of run.starts.items))

-- The wait is the one that ends with a departure, and its cause is told.
pub record IsWait (D : Doc) (S : List (Vec (String Global) Global)) (run : Run) (d : Departure) (wait : Wait) : Type 0 where
  pub train : wait.train ≡ d.train
  pub leaves : wait.leaves ≡ d.leaves
  pub cause : IsCause D S run d.train d.leaves (option_map string_bytes wait.cause)

-- One wait for each departure, in order.
abbrev pub AreWaits : Doc → List (Vec (String Global) Global) → Run → List Wait → Type 0
AreWaits D S run waits = AllZip (IsWait D S run) (departures run) waits

-- Train i has no move when a tick begins.
abbrev pub IsKept : Doc → Run → ℕ → ℕ → Type 0
IsKept D run tick i = (q : List ℕ) → Move (table_at D (table_before run.takeovers.items tick)) (positions_before D run tick) i q → ⊥
