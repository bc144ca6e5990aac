-- A document in which a train comes to a point later than planned.
use Rattle.std.specs.Prelude.{◌≡◌, ℕ, ◌+◌, ◌<◌, ◌≤◌, Bool, List, [], drop, length, map, Option, Some, None, bytes_eq, position, slice_index, slice_index_or, slice_set}
use Rattle.rail_model.specs.Layout.{Layout, point_names}
use Rattle.rail_model.specs.Table.{Mission, mission}
use Rattle.rail_model.specs.Times.{time}
use Rattle.document_json.specs.Doc.{Doc, DocTable, table_at, times_of}
use Rattle.document_json.specs.Retimed.{retimed_table}
use Rattle.delayed_documents.specs.declared.delay.Delay.{Delay}
use Rattle.delayed_documents.specs.declared.delay.NotDelayed.{NotDelayed}
use Rattle.delayed_documents.specs.declared.delay.NotDelayed.TheVariants.{Memory, NoTrain, NoPoint, TooLong}

-- ---- the steps of a way

abbrev pub point_called : Layout → ℕ → List ℕ
point_called L q = slice_index_or (point_names L) q []

-- whether the point is called so
abbrev pub is_called : Layout → List ℕ → ℕ → Bool
is_called L name q = bytes_eq (point_called L q) name

-- The first step of a way that leads to the point of that name. Step 0 leads from the start to the next point, and so on: to the start
-- itself leads no step but a later one, that comes back to it.
abbrev pub first_step_to : Layout → List ℕ → Mission → Option ℕ
first_step_to L name way = position (is_called L name) (drop 1 way.points)

-- Step k of train i, under table t, is the first that leads to the point of that name.
abbrev pub IsFirstStep : Doc → ℕ → List ℕ → ℕ → ℕ → Type 0
IsFirstStep D i name t k = (t < length D.tables) × (first_step_to D.layout name (mission (table_at D t) i) ≡ Some k)

-- The way of train i leads to the point of that name, under any table.
abbrev pub LeadsTo : Doc → ℕ → List ℕ → Type 0
LeadsTo D i name = (t : ℕ) × (k : ℕ) × IsFirstStep D i name t k

-- ---- the delay

-- times of steps, one of which takes some more ticks
abbrev pub longer : List ℕ → ℕ → ℕ → List ℕ
longer steps k ticks = slice_set steps k (slice_index steps k + ticks)

-- the table with a longer step of train i, if there is one
abbrev pub with_longer : ℕ → ℕ → DocTable → Option ℕ → DocTable
with_longer i ticks t (Some k) = retimed_table t (slice_set t.times i (longer (slice_index_or t.times i []) k ticks))
with_longer i ticks t None = t

-- the table with the delay of train i
abbrev pub with_delay_under : Layout → ℕ → Delay → DocTable → DocTable
with_delay_under L i delay t = with_longer i delay.ticks t (first_step_to L delay.point.now (mission t.table i))

-- the document with the delay of train i
abbrev pub with_delay : Doc → ℕ → Delay → Doc
with_delay D i delay = record D { tables = map (with_delay_under D.layout i delay) D.tables }

-- With the delay, the step to the point takes at most 1,000 ticks under table t.
abbrev pub Fits : Doc → ℕ → Delay → ℕ → Type 0
Fits D i delay t = (k : ℕ) → IsFirstStep D i delay.point.now t k → time (times_of D) t i k + delay.ticks ≤ 1000

-- So it does under each table.
abbrev pub FitsAll : Doc → ℕ → Delay → Type 0
FitsAll D i delay = (t : ℕ) → t < length D.tables → Fits D i delay t

-- Train i is called so.
abbrev pub IsTrain : Doc → ℕ → List ℕ → Type 0
IsTrain D i name = (i < length D.trains) × (slice_index_or D.trains i [] ≡ name)

-- The train's way leads to the point, no step takes too long, and E is the document with the delay.
pub record IsDelayed (D : Doc) (delay : Delay) (E : Doc) : Type 0 where
  pub train : ℕ
  pub called : IsTrain D train delay.train.now
  pub leads : LeadsTo D train delay.point.now
  pub fits : FitsAll D train delay
  pub is : E ≡ with_delay D train delay

-- ---- why there is none

-- Under table t the step to the point takes so many ticks, and with the delay more than 1,000.
abbrev pub IsTooLongUnder : Doc → ℕ → Delay → ℕ → ℕ → Type 0
IsTooLongUnder D i delay t takes =
    (k : ℕ) × IsFirstStep D i delay.point.now t k × (takes ≡ time (times_of D) t i k) × (1000 < takes + delay.ticks)

-- That is so first under a table t.
abbrev pub IsTooLong : Doc → ℕ → Delay → ℕ → Type 0
IsTooLong D i delay takes = (t : ℕ) × IsTooLongUnder D i delay t takes × ((u : ℕ) → u < t → Fits D i delay u)

-- Why there is no such delay; there may be no memory for any.
abbrev pub IsNotDelayed : Doc → Delay → NotDelayed → Type 0
IsNotDelayed D delay Memory = Unit {0}
IsNotDelayed D delay NoTrain = (i : ℕ) → IsTrain D i delay.train.now → ⊥
IsNotDelayed D delay NoPoint = (i : ℕ) × IsTrain D i delay.train.now × (LeadsTo D i delay.point.now → ⊥)
IsNotDelayed D delay (TooLong takes) = (i : ℕ) × IsTrain D i delay.train.now × IsTooLong D i delay takes
