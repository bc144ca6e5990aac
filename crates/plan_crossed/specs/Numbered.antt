-- Points and routes by their numbers.
use Rattle.std.specs.Prelude.{ℕ, List, length, map, Bool, false, bytes_eq, String, string_bytes, position, unwrap_or, slice_get, slice_index_or}
use Rattle.std.specs.declared.alloc.Global.{Global}
use Rattle.plan_document.specs.Nothing.{points_of}
use Rattle.plan_document.specs.declared.plan.TablePlan.{TablePlan}
use Rattle.plan_crossings.specs.Crossings.{below}
use Rattle.plan_crossings.specs.States.{Route}

-- whether a point has this name
abbrev pub is_called : List ℕ → (String Global × ℕ) → Bool
is_called name point = bytes_eq (string_bytes point.0) name

-- the number of a point: its place among the points of the plan; how many there are, if it is none of them
abbrev pub number_of : List (String Global × ℕ) → List ℕ → ℕ
number_of points name = unwrap_or (position (is_called name) points) (length points)

-- a route by the numbers of its points
abbrev pub route_by_numbers : List (String Global × ℕ) → List (String Global) → Bool → Route
route_by_numbers points route exits = record { points = map (λ name. number_of points (string_bytes name)) route; exits = exits }

-- the route of a train
abbrev pub train_by_numbers : List (String Global × ℕ) → TablePlan → ℕ → Route
train_by_numbers points t train =
    route_by_numbers points (points_of (slice_get t.routes.items train)) (slice_index_or t.exits.items train false)

-- the routes of a table by the numbers of their points
abbrev pub routes_by_numbers : List (String Global × ℕ) → TablePlan → List Route
routes_by_numbers points t = map (train_by_numbers points t) (below (length t.routes.items))
