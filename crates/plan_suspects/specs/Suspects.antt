-- Which points of routes are probably mistyped, if no lines say which tracks there are.
use Rattle.std.specs.Prelude.{ℕ, zero, suc, ◌+◌, List, [], ◌++◌, length, count_by, position, Bool, ◌==◌, ◌&&◌, ◌||◌, not, if◌then◌else◌, bytes_eq, string_bytes, String, Option, Some, None, option_map, option_to_list, slice_get}
use Rattle.std.specs.List.{list_all, list_any}
use Rattle.std.specs.Str.{str_eq_ignore_ascii_case}
use Rattle.std.specs.declared.alloc.Global.{Global}
use Rattle.rail_model.specs.Checks.{below}
use Rattle.plan_document.specs.Nothing.{points_of}
use Rattle.plan_document.specs.Shares.{is_among}
use Rattle.plan_document.specs.Tracks.{before, is_linked}
use Rattle.plan_document.specs.declared.plan.Plan.{Plan}
use Rattle.plan_document.specs.declared.plan.TablePlan.{TablePlan}
use Rattle.plan_suspects.specs.Letters.{is_one_letter_off}
use Rattle.plan_suspects.specs.declared.finding.Suspect.{Suspect}

-- a name of a plan
abbrev pub Name : Type 0
Name = String Global

-- whether a train of a table doesn't come to a point, unless it is this one
abbrev pub stays_off : TablePlan → ℕ → List ℕ → ℕ → Bool
stays_off t train point other = (other == train) || not (is_among (points_of (slice_get t.routes.items other)) point)

-- whether no other train of a table than this one comes to a point
abbrev pub is_alone_in : TablePlan → ℕ → List ℕ → Bool
is_alone_in t train point = list_all (stays_off t train point) (below (length t.routes.items))

-- whether no other train than this one comes to a point, under any table
unfoldable pub is_alone : List TablePlan → ℕ → List ℕ → Bool
is_alone tables train point = list_all (λ t. is_alone_in t train point) tables

-- whether a route comes to a point once
abbrev pub comes_once : List Name → List ℕ → Bool
comes_once route point = count_by (λ name. bytes_eq point (string_bytes name)) route == 1

-- whether a route, under any table, has two points side by side
unfoldable pub lie_together : List TablePlan → List ℕ → List ℕ → Bool
lie_together tables one other = list_any (λ t. is_linked t.routes.items one other) tables

-- whether two names are the same but for one letter or the case of letters
abbrev pub are_alike : List ℕ → List ℕ → Bool
are_alike one other = str_eq_ignore_ascii_case one other || is_one_letter_off one other

-- whether a point lies beside two others
abbrev pub lies_between : List TablePlan → Name → Name → List ℕ → Bool
lies_between tables one other point = lie_together tables (string_bytes one) point && lie_together tables (string_bytes other) point

-- whether a route that comes from one point over another to a third could have meant to go over this point: it is like that one, and beside it
-- lie both neighbours; at an end of a route, the names differ in case alone
unfoldable pub could_be : List TablePlan → Option Name → List ℕ → Option Name → List ℕ → Bool
could_be tables (Some one) here (Some other) point = are_alike here point && lies_between tables one other point
could_be tables (Some one) here None point = str_eq_ignore_ascii_case here point
could_be tables None here other point = str_eq_ignore_ascii_case here point

-- whether it is another point, and could have been meant
abbrev pub is_meant : List TablePlan → Option Name → List ℕ → Option Name → List ℕ → Bool
is_meant tables one here other point = not (bytes_eq here point) && could_be tables one here other point

-- the first point of a plan that a route could have meant which comes from one point over another to a third
abbrev pub meant_for : Plan → Option Name → List ℕ → Option Name → Option ℕ
meant_for plan one here other = position (λ p. is_meant plan.tables.items one here other (string_bytes p.0)) plan.points.items

-- whether a point is named once in all: by a train that is alone there, and once by its route
abbrev pub is_named_once : Plan → ℕ → List Name → List ℕ → Bool
is_named_once plan train route point = is_alone plan.tables.items train point && comes_once route point

-- the point that a train could have meant, if its route comes from one point to another that is named once in all
abbrev pub meant_there : Plan → ℕ → List Name → Option Name → Option Name → Option Name → Option ℕ
meant_there plan train route one None other = None
meant_there plan train route one (Some here) other =
    if is_named_once plan train route (string_bytes here) then meant_for plan one (string_bytes here) other else None

-- the point that a train could have meant at a place of its route
unfoldable pub meant_at : Plan → ℕ → List Name → ℕ → Option ℕ
meant_at plan train route place = meant_there plan train route (before route place) (slice_get route place) (slice_get route (place + 1))

-- the suspect at a place of a train's route under a table, if its point is one
abbrev pub suspect_at : Plan → ℕ → ℕ → List Name → ℕ → List Suspect
suspect_at plan table train route place =
    option_to_list (option_map (λ meant. record { table = table; train = train; place = place; meant = meant }) (meant_at plan train route place))

-- those at its first places
abbrev pub suspects_to : Plan → ℕ → ℕ → List Name → ℕ → List Suspect
suspects_to plan table train route zero = []
suspects_to plan table train route (suc k) = suspects_to plan table train route k ++ suspect_at plan table train route k

-- those at all its places
abbrev pub suspects_on : Plan → ℕ → ℕ → List Name → List Suspect
suspects_on plan table train route = suspects_to plan table train route (length route)

-- those of the first trains of a table
abbrev pub suspects_under : Plan → ℕ → TablePlan → ℕ → List Suspect
suspects_under plan table t zero = []
suspects_under plan table t (suc train) = suspects_under plan table t train ++ suspects_on plan table train (points_of (slice_get t.routes.items train))

-- those of a table, if it is there
abbrev pub suspects_there : Plan → ℕ → Option TablePlan → List Suspect
suspects_there plan k None = []
suspects_there plan k (Some t) = suspects_under plan k t (length t.routes.items)

-- those of table k
abbrev pub suspects_in : Plan → ℕ → List Suspect
suspects_in plan k = suspects_there plan k (slice_get plan.tables.items k)

-- those of the first tables
abbrev pub suspects_below : Plan → ℕ → List Suspect
suspects_below plan zero = []
suspects_below plan (suc k) = suspects_below plan k ++ suspects_in plan k

-- the suspects of a plan without lines, by tables, trains and places; none, where routes have to keep to lines
unfoldable pub suspects : Plan → List Suspect
suspects plan = if length plan.lines.items == 0 then suspects_below plan (length plan.tables.items) else []

-- whether a plan has a suspect
abbrev pub has_suspects : Plan → Bool
has_suspects plan = not (length (suspects plan) == 0)
