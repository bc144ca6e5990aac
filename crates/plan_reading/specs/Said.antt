-- What a text says of a plan, and what it is to read it right.
use Rattle.std.specs.Prelude.{◌≡◌, ◌<◌, ℕ, zero, suc, List, length, ◌==◌, ◌&&◌, ◌||◌, ◌-◌, nat_lt, codes, Bool, true, false, if◌then◌else◌, String, Vec, vec_len, Option, Some, None, option_and_then, unwrap_or, slice_get, slice_index_or, IsSomeAnd, IsTrue, IsUtf8}
use Rattle.std.specs.List.{list_all, list_any}
use Rattle.std.specs.Option.{ForSome, option_or}
use Rattle.std.specs.declared.alloc.Global.{Global}
use Rattle.toml.specs.Data.{Data, Items, no_items, item, Members, get_member, get_item, as_array}
use Rattle.toml.specs.Parse.{parse_document}
use Rattle.plan_document.specs.Nothing.{points_of}
use Rattle.plan_document.specs.Tracks.{has_free_ends, is_no_switch, keeps}
use Rattle.plan_document.specs.declared.plan.Plan.{Plan}
use Rattle.plan_document.specs.declared.plan.TablePlan.{TablePlan}
use Rattle.plan_document.specs.declared.plan.Wait.{Wait}
use Rattle.plan_patterns.specs.Expanded.{expanded}
use Rattle.plan_reading.specs.Agreeing.{agree_all, is_name, value_at, text_at, list_at, is_named, is_route, says_yes, is_exit, names_place, names_train, starts_at, is_due}
use Rattle.plan_reading.specs.Held.{is_section}
use Rattle.plan_reading.specs.Timed.{are_times}
use Rattle.plan_reading.specs.Zoned.{are_zoned}
use Rattle.plan_reading.specs.declared.reading.PlanRead.{PlanRead}

-- the entries of the list at a key of a text
abbrev pub entries_at : List ℕ → Members → Items
entries_at key text = unwrap_or (option_and_then as_array (get_member key text)) no_items

-- the entries that hold in a table: its own list at a key, or else that of the text
abbrev pub entries_in : List ℕ → Members → Option Data → Items
entries_in key text own = unwrap_or (list_at key own) (entries_at key text)

-- what table k says itself, where these are the entries of the further tables: the first says nothing
abbrev pub own_of : Items → ℕ → Option Data
own_of further zero = None
own_of further (suc k) = get_item k further

-- the first of these entries that has this name
abbrev pub first_named : Items → String Global → Option Data
first_named no_items name = None
first_named (item d ds) name = if is_named d name then Some d else first_named ds name

-- what a table says itself of a train, if the train has a name
abbrev pub change_of : Option Data → Option (String Global) → Option Data
change_of own name = option_and_then (first_named (unwrap_or (list_at (codes "train") own) no_items)) name

-- this holds of each train of a plan
abbrev pub EachTrain : Plan → (ℕ → Bool) → Type 0
EachTrain plan t = (train : ℕ) → train < length plan.trains.items → IsTrue (t train)

-- what is said of a train at a key: what its table changes there, or else what its entry in the text has
abbrev pub said_at : List ℕ → Option Data → Option Data → Option Data
said_at key change entry = option_or (value_at key change) (value_at key entry)

-- the route of a train in a table, and whether it exits after it
abbrev pub route_in : TablePlan → ℕ → List (String Global)
route_in t train = points_of (slice_get t.routes.items train)

abbrev pub exits_in : TablePlan → ℕ → Bool
exits_in t train = slice_index_or t.exits.items train false

-- whether there are times, and they are those that are said for a route, with the dwell at its points
abbrev pub has_times : Option Data → Option Data → List (String Global) → Bool → Option (List ℕ) → Bool
has_times said dwell route exits None = false
has_times said dwell route exits (Some times) = are_times said dwell route exits times

-- whether a train goes in a table as is said of it: its route, its exit, and its times with its dwell
abbrev pub goes_as_said : Option Data → Option Data → TablePlan → ℕ → Bool
goes_as_said change entry t train =
    is_route (said_at (codes "route") change entry) (route_in t train)
    && is_exit (said_at (codes "exit") change entry) (exits_in t train)
    && has_times (said_at (codes "times") change entry) (said_at (codes "dwell") change entry) (route_in t train) (exits_in t train) (slice_get t.times.items train)

-- whether a train of a plan goes in a table as the table says itself, or else the entry of the train
abbrev pub goes_right : Items → Option Data → Plan → TablePlan → ℕ → Bool
goes_right entries own plan t train = goes_as_said (change_of own (slice_get plan.trains.items train)) (get_item train entries) t train

-- whether a table has a route, an exit and times for each train of a plan, and no more
abbrev pub is_complete : Plan → TablePlan → Bool
is_complete plan t =
    (length t.routes.items == length plan.trains.items)
    && (length t.exits.items == length plan.trains.items)
    && (length t.times.items == length plan.trains.items)

-- whether an entry names the trains and the places of this wait
abbrev pub is_wait : List (String Global) → List (Vec (String Global) Global) → Data → Wait → Bool
is_wait trains routes entry w =
    names_train (text_at (codes "train") entry) (slice_get trains w.train)
    && names_place (text_at (codes "leaves") entry) (points_of (slice_get routes w.train)) w.leaves
    && names_train (text_at (codes "after") entry) (slice_get trains w.after)
    && names_place (text_at (codes "reached") entry) (points_of (slice_get routes w.after)) w.reached

-- whether a route keeps to lines, and neither begins nor ends at a switch
abbrev pub keeps_free : List (Vec (String Global) Global) → List (String Global) → List (String Global) → Bool
keeps_free lines switches route = keeps lines switches route && has_free_ends switches route

-- whether all routes keep to lines, with no end at a switch: each of their points and links is one of a line, and they pass switches as lines do
abbrev pub all_keep : List (Vec (String Global) Global) → List (String Global) → List (Vec (String Global) Global) → Bool
all_keep lines switches routes = list_all (λ route. keeps_free lines switches route.items) routes

-- whether all routes keep to lines, if there are any
unfoldable pub keep_to : List (Vec (String Global) Global) → List (String Global) → List (Vec (String Global) Global) → Bool
keep_to lines switches routes = (length lines == 0) || all_keep lines switches routes

-- a table of a plan agrees with a text and with what the table says itself: in its trains, its sections and its
-- connections, and in when it is due; and its routes keep to the plan's lines, with no end at a switch
pub record AgreesIn (text : Members) (own : Option Data) (plan : Plan) (t : TablePlan) : Type 0 where
  pub complete : is_complete plan t ≡ true
  pub trains : EachTrain plan (goes_right (entries_at (codes "train") text) own plan t)
  pub sections : agree_all (is_section plan.trains.items t.routes.items t.exits.items) (entries_in (codes "section") text own) t.sections.items ≡ true
  pub connections : agree_all (is_wait plan.trains.items t.routes.items) (entries_in (codes "connection") text own) t.waits.items ≡ true
  pub due : is_due own t.after ≡ true
  pub laid : keep_to plan.lines.items plan.switches.items t.routes.items ≡ true

-- how many entries there are
abbrev pub count_of : Items → ℕ
count_of no_items = 0
count_of (item d ds) = suc (count_of ds)

-- the tables of a plan are the first, and one for each of these entries of further tables; each agrees with the text and with what it says itself
pub record TablesAsSaid (text : Members) (further : Items) (plan : Plan) : Type 0 where
  pub as_many : length plan.tables.items ≡ suc (count_of further)
  pub each : (k : ℕ) → ForSome (slice_get plan.tables.items k) (AgreesIn text (own_of further k) plan)

-- whether a plan has no lines, or this point, if there is one, is no switch
abbrev pub may_start_at : Plan → Option (String Global) → Bool
may_start_at plan point = (length plan.lines.items == 0) || is_no_switch plan.switches.items point

-- whether a train that says this of its start starts at this place of its route, where it may
abbrev pub starts_there : Plan → Option (List ℕ) → List (String Global) → ℕ → Bool
starts_there plan said route place = starts_at said route place && may_start_at plan (slice_get route place)

-- whether a train of a plan starts, under the first table, at the place that its entry says, where it may
abbrev pub starts_right : Items → Plan → TablePlan → ℕ → Bool
starts_right entries plan first train =
    starts_there plan (option_and_then (text_at (codes "start")) (get_item train entries)) (route_in first train) (slice_index_or plan.start.items train 0)

-- the trains of a plan start, under the first table, where their entries say, and, if there are lines, at no switch
pub record StartAsSaid (entries : Items) (plan : Plan) (first : TablePlan) : Type 0 where
  pub as_many : length plan.start.items ≡ length plan.trains.items
  pub places : EachTrain plan (starts_right entries plan first)

-- whether each of these points is in one of so many zones, counted from 0
abbrev pub are_within : List (String Global × ℕ) → ℕ → Bool
are_within points zones = list_all (λ p. nat_lt p.1 zones) points

-- whether one of these points is in this zone
abbrev pub is_used : List (String Global × ℕ) → ℕ → Bool
is_used points zone = list_any (λ p. p.1 == zone) points

-- whether there are exactly as many zones as these points need: the last is zone 0, or one of the points is in it
abbrev pub has_zones : List (String Global × ℕ) → ℕ → Bool
has_zones points zones = nat_lt 0 zones && are_within points zones && (zones == 1 || is_used points (zones - 1))

-- whether a text says that routes need not keep to its lines
abbrev pub is_open : Members → Bool
is_open text = says_yes (get_member (codes "open") text)

-- the lines to which routes have to keep: those of a text, unless it is open
abbrev pub lines_of : Members → Items
lines_of text = if is_open text then no_items else entries_at (codes "lines") text

-- whether an item names the points of this line
abbrev pub is_line : Data → Vec (String Global) Global → Bool
is_line d line = is_route (Some d) line.items

-- a plan has the lines of a text to which routes have to keep, and its switches
pub record AreTracks (text : Members) (plan : Plan) : Type 0 where
  pub lines : agree_all is_line (lines_of text) plan.lines.items ≡ true
  pub switches : agree_all is_name (entries_at (codes "switches") text) plan.switches.items ≡ true

-- a plan is what a text says: it has the text's trains, in order, by their names, and starts them where it says; its
-- points are in the zones that it says; its tables are as it says; and its routes keep to the text's lines, if it has any
-- and isn't open. This leaves out which points and links there are, and in which order
pub record IsPlanOf (text : Members) (plan : Plan) : Type 0 where
  pub tracks : AreTracks text plan
  pub trains : agree_all is_named (entries_at (codes "train") text) plan.trains.items ≡ true
  pub starts : ForSome (slice_get plan.tables.items 0) (StartAsSaid (entries_at (codes "train") text) plan)
  pub zoned : are_zoned (get_member (codes "zones") text) plan.points.items ≡ true
  pub zones : has_zones plan.points.items plan.zones ≡ true
  pub tables : TablesAsSaid text (entries_at (codes "table") text) plan

-- a table of keys is read right: as a plan that agrees with it, or with one fault at least
abbrev pub IsReading : Members → PlanRead → Type 0
IsReading text (PlanRead.Plan plan) = IsPlanOf text plan
IsReading text (PlanRead.Faults faults) = 0 < vec_len faults

-- a text is read right: as a plan only if it is UTF-8 and TOML, and the plan agrees with it, with its patterns, counts and ways
-- written out; with one fault at least otherwise
abbrev pub IsPlanRead : List ℕ → PlanRead → Type 0
IsPlanRead text (PlanRead.Plan plan) = IsUtf8 text × IsSomeAnd (parse_document text) (λ document. IsPlanOf (expanded document) plan)
IsPlanRead text (PlanRead.Faults faults) = 0 < vec_len faults
