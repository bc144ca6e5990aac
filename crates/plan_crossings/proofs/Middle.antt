-- Where a train is that is on a way with one point between its ends.
use Rattle.std.proofs.Common.{◌≡◌, ◌∙◌, sym, ap, refl, ℕ, ◌+◌, ◌-◌, ◌<◌, ◌≤◌, ◌++◌, true, List, length, get_or, drop, reverse, nat_eq, nat_lt, arith, ⊎_elim}
use Rattle.std.specs.Cmp.Lexicographic.{pointwise}
use Rattle.std.proofs.lemmas.Bool.{and_parts, or_cases, ltb-true, eqb-true}
use Rattle.std.proofs.lemmas.Bool.Decides.{Decides-eqb}
use Rattle.std.proofs.lemmas.List.{length-take, length-drop, length-reverse, get_or-take, get_or-drop, get_or-reverse}
use Rattle.std.proofs.lemmas.List.Folds.{Any-from_list_any}
use Rattle.std.proofs.lemmas.List.Prefix.{at_reads}
use Rattle.std.proofs.lemmas.Slice.Eq.{starts_is, bytes_eq-Decides}
use Rattle.plan_crossings.specs.Crossings.{Crossing, below, way, inner, goes_along, is_inside, is_on}
use Rattle.plan_crossings.specs.Stands.{has_point_of}
use Rattle.plan_crossings.proofs.Lists.{get_or-below, length-below}

-- The point of a place is one of these, between the first and the last.
record IsAmong (points route : List ℕ) (k o : ℕ) : Type 0 where
  pub after : 1 ≤ o
  pub ahead : o + 1 < length points
  pub point : get_or route k 0 ≡ get_or points o 0

among : (points route : List ℕ) (k : ℕ) → is_inside points route k ≡ true → (o : ℕ) × IsAmong points route k o
among points route k h =
    let some = Any-from_list_any _ (below k) h in
    let from : ℕ = some.1 in
    let is : get_or (below k) some.0 from ≡ from = some.3 in
    let lt : from < k = omega (arith, is, get_or-below k some.0 from (omega (arith, some.2, length-below k)), some.2, length-below k) in
    let parts = and_parts (goes_along points route from) (nat_lt (k - from) (length points - 1)) some.4 in
    let ahead : k - from < length points - 1 = ltb-true (k - from) (length points - 1) parts.1 in
    let along : drop from route ≡ points ++ drop (length points) (drop from route) =
    (starts_is Decides-eqb (drop from route) points (goes_along points route from) refl).0 parts.0 in
    let read : get_or route (from + (k - from)) 0 ≡ get_or points (k - from) 0 =
    at_reads 0 route points from (drop (length points) (drop from route)) along (k - from) (omega arith) in
    let at : k ≡ from + (k - from) = omega arith in
    (k - from, record { after = omega arith; ahead = omega arith; point = ap (λ m. get_or route m 0) at ∙ read })

length-inner : (points : List ℕ) → 2 ≤ length points → length (inner points) + 2 ≡ length points
length-inner points l = omega (arith, length-take (length points - 2) (drop 1 points), length-drop 1 points)

inner-short : (points : List ℕ) → length (inner points) ≡ 1 → length points ≡ 3
inner-short points one = omega (arith, one, length-take (length points - 2) (drop 1 points), length-drop 1 points)

inner-first : (points : List ℕ) → length points ≡ 3 → get_or (inner points) 0 0 ≡ get_or points 1 0
inner-first points three =
    get_or-take (length points - 2) (drop 1 points) 0 0 (omega arith) ∙ get_or-drop 1 points 0 0

-- it is at that point
pub middle : (points route : List ℕ) (k : ℕ) → length (inner points) ≡ 1 → is_on points route k ≡ true
    → get_or route k 0 ≡ get_or (inner points) 0 0
middle points route k one on =
    let three : length points ≡ 3 = inner-short points one in
    let first : get_or (inner points) 0 0 ≡ get_or points 1 0 = inner-first points three in
    ⊎_elim
    (λ (there : is_inside points route k ≡ true).
    let at = among points route k there in
    let is : at.0 ≡ 1 = omega (arith, three, at.1.after, at.1.ahead) in
    at.1.point ∙ ap (λ o. get_or points o 0) is ∙ sym first)
    (λ (back : is_inside (reverse points) route k ≡ true).
    let at = among (reverse points) route k back in
    let is : at.0 ≡ 1 = omega (arith, three, at.1.after, at.1.ahead, length-reverse points) in
    let turned : length points - 1 - 1 ≡ 1 = omega (arith, three) in
    at.1.point ∙ ap (λ o. get_or (reverse points) o 0) is ∙ get_or-reverse points 1 0 (omega (arith, three))
    ∙ ap (λ o. get_or points o 0) turned ∙ sym first)
    (or_cases (is_inside points route k) (is_inside (reverse points) route k) on)

-- trains on two ways with one and the same point are both there
pub same_middle : (c : Crossing) (u v : ℕ) (one other : List ℕ) (k m : ℕ) → has_point_of c u v ≡ true → is_on (way c u) one k ≡ true
    → is_on (way c v) other m ≡ true → get_or one k 0 ≡ get_or other m 0
same_middle c u v one other k m same u_on v_on =
    let parts = and_parts (nat_eq (length (inner (way c u))) 1) (pointwise nat_eq (inner (way c u)) (inner (way c v))) same in
    let single : length (inner (way c u)) ≡ 1 = eqb-true (length (inner (way c u))) 1 parts.0 in
    let equal : inner (way c u) ≡ inner (way c v) = (bytes_eq-Decides (inner (way c u)) (inner (way c v))).0 parts.1 in
    middle (way c u) one k single u_on ∙ ap (λ xs. get_or xs 0 0) equal
    ∙ sym (middle (way c v) other m (sym (ap length equal) ∙ single) v_on)
