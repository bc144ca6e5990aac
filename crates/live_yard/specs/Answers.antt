-- What each request is answered, and what it changes before standing wants are tried.
use Rattle.std.specs.Prelude.{◌≡◌, ◌≢◌, ◌⊎◌, ℕ, ◌+◌, ◌<◌, ◌≤◌, List, length, true, false, Option, Some, None}
use Rattle.rail_model.specs.Table.{place}
use Rattle.rail_model.specs.Yard.{Tries}
use Rattle.live_yard.specs.GrantedLines.{WasTried}
use Rattle.live_yard.specs.Wants.{Drops, StandsIn}
use Rattle.live_yard.specs.declared.requests.Elsewhere.{Elsewhere as ElsewhereValue}
use Rattle.live_yard.specs.declared.requests.Request.{Request}
use Rattle.live_yard.specs.declared.requests.Request.TheVariants.{Ask, Want, Drop, At, Table}
use Rattle.live_yard.specs.declared.requests.Reply.{Reply}
use Rattle.live_yard.specs.declared.requests.Reply.TheVariants.{Granted, Held, Elsewhere, Dropped, There, NotThere}
use Rattle.live_yard.specs.declared.requests.Reply.TheVariants.{NoReports, Tried, TriedBefore, TooSoon, NoTable}
use Rattle.live_yard.specs.declared.requests.Served.{Served}
use Rattle.live_yard.specs.declared.told.Told.TheVariants.{May, Arrived}
use Rattle.live_yard.specs.declared.told.Told.{Told}
use Rattle.live_yard.specs.Reported.{MayGoOn, NamesElsewhere, NamesNext, TellsTrain, after_table, granted, place_of}
use Rattle.live_yard.specs.Reported.{reported}
use Rattle.live_yard.specs.Firing.{DispatchState, Settles}

-- the answer to a train that was told this, with the number of the line that comes next
abbrev pub told_reply : Told → ℕ → Reply
told_reply May n = Granted n
told_reply told n = Held told

-- The want of train i stands last then, also where it stood before.
pub record StandsLast (wants : List ℕ) (i : ℕ) (longer : List ℕ) : Type 0 where
  pub number : ℕ
  pub others : List ℕ
  pub drops : Drops wants i number others
  pub stands : StandsIn others i longer

-- The want of a train that was told this stands then, where it has to wait.
abbrev pub StandsIfHeld : Told → List ℕ → ℕ → List ℕ → Type 0
StandsIfHeld May wants i longer = longer ≡ wants
StandsIfHeld Arrived wants i longer = longer ≡ wants
StandsIfHeld told wants i longer = StandsLast wants i longer

-- Train i asks for its next place: it is granted by the line that comes next, or it is held and nothing is changed.
abbrev pub Asks : DispatchState → ℕ → Reply → DispatchState → Type 0
Asks v i (Granted n) w =
    MayGoOn v.yard i × (w ≡ record v { yard = granted v.yard i }) × (n ≡ length v.yard.run.lines + 1)
Asks v i (Held told) w = TellsTrain v.yard i told × (told ≢ May) × (w ≡ v)
Asks v i _ w = ⊥

-- Train i wants its next place: where it waits its want stands last, and where it has arrived nothing is changed.
abbrev pub Wants : DispatchState → ℕ → Reply → DispatchState → Type 0
Wants v i (Held Arrived) w = TellsTrain v.yard i Arrived × (w ≡ v)
Wants v i (Held told) w = TellsTrain v.yard i told × (told ≢ May) × (w.yard ≡ v.yard) × StandsLast v.wants i w.wants
Wants v i reply w = Asks v i reply w

-- Train i is wholly at place k, and all behind it is clear.
abbrev pub Reports : DispatchState → ℕ → ℕ → Reply → DispatchState → Type 0
Reports v i k NoReports w = (v.yard.reports ≡ false) × (w ≡ v)
Reports v i k (NotThere at) w = (v.yard.reports ≡ true) × (at ≡ place_of v.yard i) × (at < k) × (w ≡ v)
Reports v i k (There at) w =
    (v.yard.reports ≡ true) × (k ≤ place_of v.yard i) × (w ≡ record v { yard = reported v.yard i k })
    × (at ≡ place w.yard.there i)
Reports v i k _ w = ⊥

-- The next table is tried, or a table is named that isn't the next one.
abbrev pub TriesTable : DispatchState → Option ℕ → Reply → DispatchState → Type 0
TriesTable v table (NoTable n) w =
    (n ≡ length v.yard.run.tables) × ((t : ℕ) × (table ≡ Some t) × ((t ≡ 0) ⊎ (n ≤ t))) × (w ≡ v)
TriesTable v table (TooSoon tried) w =
    (tried ≡ v.yard.run.yard.tried) × ((t : ℕ) × (table ≡ Some t) × (tried + 1 < t) × (t < length v.yard.run.tables))
    × (w ≡ v)
TriesTable v table (TriedBefore n) w = ((t : ℕ) × (table ≡ Some t) × WasTried v.yard.run.lines t n) × (w ≡ v)
TriesTable v table (Tried tried) w =
    ((table ≡ None) ⊎ ((table ≡ Some (v.yard.run.yard.tried + 1))
    × (v.yard.run.yard.tried + 1 < length v.yard.run.tables)))
    × Tries v.yard.run.tables v.yard.run.yard tried × (w ≡ record v { yard = after_table v.yard tried })
TriesTable v table _ w = ⊥

-- A place that isn't train i's next one is answered, and changes nothing; else it asks.
abbrev pub AtNext : DispatchState → ℕ → Option ℕ → Reply → DispatchState → Type 0 → Type 0
AtNext v i named reply w asks =
    (NamesNext v.yard i named × asks)
    ⊎ ((found : ElsewhereValue) × (reply ≡ Elsewhere found) × NamesElsewhere v.yard i named found × (w ≡ v))

-- Train i asks for its next place, or for the one that is named.
abbrev pub AsksAt : DispatchState → ℕ → Option ℕ → Reply → DispatchState → Type 0
AsksAt v i named reply w = AtNext v i named reply w (Asks v i reply w)

-- Train i wants its next place, or the one that is named.
abbrev pub WantsAt : DispatchState → ℕ → Option ℕ → Reply → DispatchState → Type 0
WantsAt v i named reply w = AtNext v i named reply w (Wants v i reply w)

-- What a request is answered, and what it changes before standing wants are tried.
abbrev pub Serves : DispatchState → Request → Reply → DispatchState → Type 0
Serves v (Ask i named) reply w = AsksAt v i named reply w
Serves v (Want i named) reply w = WantsAt v i named reply w
Serves v (Drop i) reply w = (n : ℕ) × (reply ≡ Dropped n) × (w.yard ≡ v.yard) × Drops v.wants i n w.wants
Serves v (At i k) reply w = Reports v i k reply w
Serves v (Table named) reply w = TriesTable v named reply w

-- A request is answered, and then wants are granted until none can be.
pub record IsServed (v : DispatchState) (request : Request) (served : Served) (w : DispatchState) : Type 0 where
  pub between : DispatchState
  pub serves : Serves v request served.reply between
  pub settles : Settles between w served.granted

-- The train of a request is one of the run's.
abbrev pub IsOfRun : ℕ → Request → Type 0
IsOfRun trains (Ask i named) = i < trains
IsOfRun trains (Want i named) = i < trains
IsOfRun trains (Drop i) = i < trains
IsOfRun trains (At i k) = i < trains
IsOfRun trains (Table named) = Unit {0}
