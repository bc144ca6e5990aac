-- Which times a text says for the steps of a train.
use Rattle.std.specs.Prelude.{ℕ, ℤ, pos, ◌+ℤ◌, List, [], ◌∷◌, ◌++◌, map, drop, zip, Bool, codes, String, string_bytes, if◌then◌else◌, Option, option_and_then, unwrap_or}
use Rattle.std.specs.Option.{option_or}
use Rattle.std.specs.declared.alloc.Global.{Global}
use Rattle.toml.specs.Data.{Data, as_integer}
use Rattle.plan_entries.specs.Found.{number_in}

-- the name of a link: its two points, with a space between them
abbrev pub link : String Global → String Global → List ℕ
link from to = string_bytes from ++ 32 ∷ string_bytes to

-- the number for all steps, or for all points, that have none of their own: one number for the train, or that at `default` in a table
abbrev pub default_in : Data → Option ℤ
default_in said = option_or (as_integer said) (number_in (codes "default") said)

-- that number, or else another, if it isn't said
abbrev pub default_or : Option Data → ℤ → ℤ
default_or said other = unwrap_or (option_and_then default_in said) other

-- the time of the step out of the layout, and the running time of each step that has none of its own; 1, if no number is said
abbrev pub usual_time : Option Data → ℤ
usual_time said = default_or said (pos 1)

-- the running time of a step from one point to another: the number at their link, or else the usual time
abbrev pub running_time : Option Data → String Global → String Global → ℤ
running_time said from to = unwrap_or (option_and_then (number_in (link from to)) said) (usual_time said)

-- how long a train stands at a point that it comes to: the number at the point, or else that for all others; 0, if no number is said
abbrev pub dwell_at : Option Data → String Global → ℤ
dwell_at dwell point = unwrap_or (option_and_then (number_in (string_bytes point)) dwell) (default_or dwell (pos 0))

-- the time of a step from one point to another: its running time, and the dwell at the point to which it leads
abbrev pub step_time : Option Data → Option Data → String Global → String Global → ℤ
step_time said dwell from to = running_time said from to +ℤ dwell_at dwell to

-- the steps of a route: each point with the one after it
abbrev pub steps : List (String Global) → List (String Global × String Global)
steps route = zip route (drop 1 route)

-- the times that are said for the steps of a route, and for the step out of the layout, which has no dwell, if the train exits
abbrev pub times_said : Option Data → Option Data → List (String Global) → Bool → List ℤ
times_said said dwell route exits = map (λ s. step_time said dwell s.0 s.1) (steps route) ++ (if exits then usual_time said ∷ [] else [])
