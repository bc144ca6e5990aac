-- The start: why positions are not legal under a table, by tests that compute.
use Rattle.std.specs.Prelude.{ℕ, List, [], ◌∷◌, length, not, ◌==◌, pos, nat_abs, nat_lt, int_lt, option_map, option_and_then, Option, Some}
use Rattle.std.specs.Bool.{then_some}
use Rattle.rail_model.specs.Checks.{same_point}
use Rattle.rail_model.specs.Table.{Table, trains, last, point, limit, place, count}
use Rattle.rail_model.specs.Turns.{first_of, first_below}
use Rattle.legal_state.specs.declared.judges.Illegal.{Illegal}
use Rattle.legal_state.specs.declared.judges.Illegal.TheVariants.{Range, Clash, Over}
use Rattle.document_json.specs.declared.refused.DocRefused.{DocRefused}
use Rattle.document_json.specs.declared.refused.DocRefused.TheVariants as refused

-- the train is past its last place
abbrev pub out_of_range : Table → List ℕ → ℕ → Option Illegal
out_of_range T p i = then_some (nat_lt (last T i) (place p i)) (Range i)

-- a later train is at the point of the train
abbrev pub meets : Table → List ℕ → ℕ → ℕ → Option Illegal
meets T p i k =
    option_and_then (λ q. then_some (nat_lt i k) (Clash i k q))
    (option_and_then (λ q. then_some (same_point (Some q) (point T k (place p k))) q) (point T i (place p i)))

-- the first later train at the point of the train
abbrev pub first_meeting : Table → List ℕ → ℕ → Option Illegal
first_meeting T p i = first_below (trains T) (meets T p i)

-- the section's count passes its limit
abbrev pub over_limit : Table → List ℕ → ℕ → Option Illegal
over_limit T p s = then_some (int_lt (pos (limit T s)) (count T s p)) (Over s (nat_abs (count T s p)) (limit T s))

-- why positions, one for each train, are not legal: a train past its end, then two at one point, then a section over its limit
abbrev pub illegality : Table → List ℕ → Option Illegal
illegality T p =
    first_of (
    first_below (trains T) (out_of_range T p)
    ∷ first_below (trains T) (first_meeting T p)
    ∷ first_below (length T.sections) (over_limit T p)
    ∷ [])

-- what is wrong with the start
abbrev pub start_refusal : Table → List ℕ → Option DocRefused
start_refusal T p =
    first_of (
    then_some (not (length p == trains T)) (refused.StartLength (length p))
    ∷ option_map refused.Start (illegality T p)
    ∷ [])
