-- Where nothing is wrong with a crossing, each train at a point of it is on one of its ways.
use Rattle.std.proofs.Common.{◌≡◌, ◌∙◌, sym, ap, refl, ℕ, ◌<◌, Bool, true, false, not, List, [], length, get_or, Any, Option, Some, None, find, option_map, option_and_then, slice_get, arith}
use Rattle.std.specs.List.{list_any, position_or_len}
use Rattle.std.specs.Option.{option_or}
use Rattle.std.proofs.lemmas.Bool.{true≢false, and_from, not_from_false, false_from_ne_true, true_from_ne_false}
use Rattle.std.proofs.lemmas.List.Folds.{Any-from_list_any, find_at, list_any_at}
use Rattle.std.proofs.lemmas.List.Quantifiers.{position-Some}
use Rattle.std.proofs.lemmas.Option.{slice_get-get_or, slice_get_within}
use Rattle.plan_crossings.specs.declared.refused.Fault.{Fault}
use Rattle.plan_crossings.specs.declared.refused.Fault.TheVariants.{Stray}
use Rattle.plan_crossings.specs.Crossings.{Crossing, below, is_on}
use Rattle.plan_crossings.specs.Faults.{no_inner, common, is_within, is_there, is_on_some, strays_at, strays, stray_place, stray, fault}
use Rattle.plan_crossings.specs.States.{Route, points_of}
use Rattle.plan_crossings.proofs.Known.{found_within, position-from_any}
use Rattle.plan_crossings.proofs.Lists.{get_or-below, length-below}

or-none : (o p : Option Fault) → option_or o p ≡ None → (o ≡ None) × (p ≡ None)
or-none None p e = (refl, e)
or-none (Some f) p e = cc

stray-none : (routes : List Route) (c : Crossing) → fault routes c ≡ None → stray c routes ≡ None
stray-none routes c e = (or-none (common c) (stray c routes) ((or-none (no_inner c) (option_or (common c) (stray c routes)) e).1)).1

find-some : (p : ℕ → Bool) (xs : List ℕ) → list_any p xs ≡ true → (x : ℕ) × (find p xs ≡ Some x)
find-some p xs h =
    (get_or xs (position_or_len p xs) 0, find_at p xs ∙ slice_get-get_or xs (position_or_len p xs) 0 (found_within p xs h))

abbrev default_route : Route
default_route = record { points = []; exits = false }

none-strays : (routes : List Route) (c : Crossing) (i : ℕ) → stray c routes ≡ None → i < length routes
    → strays c (points_of routes i) ≡ false
none-strays routes c i none lt = false_from_ne_true (strays c (points_of routes i)) (λ yes.
    let test : Route → Bool = λ r. strays c r.points in
    let first = position-from_any test routes (list_any_at test routes i default_route lt yes) in
    let n : ℕ = position_or_len test routes in
    let facts = position-Some test routes n default_route first in
    let at = find-some (strays_at c (points_of routes n)) (below (length (points_of routes n))) facts.1 in
    let found : stray c routes ≡ Some (Stray n at.0) =
    ap (option_and_then (λ (m : ℕ). option_map (Stray m) (stray_place c (points_of routes m)))) first ∙ ap (option_map (Stray n)) at.1 in
    let bad : None ≡ Some (Stray n at.0) = sym none ∙ found in
    cc)

place-strays : (c : Crossing) (route : List ℕ) (k : ℕ) → strays c route ≡ false → k < length route → strays_at c route k ≡ false
place-strays c route k none lt = false_from_ne_true (strays_at c route k) (λ yes.
    let here : get_or (below (length route)) k 0 ≡ k = get_or-below (length route) k 0 lt in
    true≢false (sym (list_any_at (strays_at c route) (below (length route)) k 0 (omega (arith, length-below (length route)))
    (ap (strays_at c route) here ∙ yes)) ∙ none))

pub passing : (routes : List Route) (c : Crossing) (i k q : ℕ) → fault routes c ≡ None → i < length routes
    → slice_get (points_of routes i) k ≡ Some q → is_within c q ≡ true → Any (λ points. is_on points (points_of routes i) k ≡ true) c.ways
passing routes c i k q sound lt at within =
    let route = points_of routes i in
    let no_stray : strays_at c route k ≡ false =
    place-strays c route k (none-strays routes c i (stray-none routes c sound) lt) (slice_get_within route k q at) in
    let on : is_on_some c route k ≡ true = true_from_ne_false (is_on_some c route k) (λ off.
    true≢false (sym (and_from (is_there (is_within c) (slice_get route k)) (not (is_on_some c route k))
    (ap (is_there (is_within c)) at ∙ within) (not_from_false (is_on_some c route k) off)) ∙ no_stray)) in
    Any-from_list_any (λ points. is_on points route k) c.ways on
