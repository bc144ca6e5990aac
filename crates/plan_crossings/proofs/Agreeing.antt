-- Sections by stands that forbid exactly the clashes of a crossing's stands are, by places, exact for the crossing.
use Rattle.std.proofs.Common.{◌≡◌, ◌≢◌, ◌∙◌, sym, ap, subst, ℕ, ◌<◌, ◌≤◌, Bool, true, false, List, [], length, map, get_or, All, Option, Some, None, sum_by, arith, ⊎_elim}
use Rattle.std.proofs.lemmas.Bool.{true≢false, or_cases, or_left, cases_lt, true_from_ne_false}
use Rattle.std.proofs.lemmas.List.{get_or-map, get_or_past, length-map}
use Rattle.std.proofs.lemmas.List.Elements.{All-map}
use Rattle.std.proofs.lemmas.List.FromFn.{get_or-map-range_with_len, length-map-range_with_len}
use Rattle.std.proofs.lemmas.Option.{slice_get-get_or}
use Rattle.clash_sections.specs.declared.meetings.Meeting.TheVariants.{Clash, Never}
use Rattle.clash_sections.specs.declared.refused.Refused.{Refused as ClashesRefused}
use Rattle.clash_sections.specs.declared.refused.Refused.TheVariants.{FreeOfItself, Many as TooMany, Memory as OutOfMemory}
use Rattle.clash_sections.specs.Answer.{IsRefused as IsRefusedStands}
use Rattle.clash_sections.specs.Stands.{meeting, stand, Meet, IsApart, IsPossible}
use Rattle.clash_sections.specs.Sections.{StandSection, share_of, IsWithin as IsWithinStands, IsExact as IsExactStands, IsSized as IsSizedStands}
use Rattle.plan_crossings.specs.Answer.{IsRefusedFor}
use Rattle.plan_crossings.specs.Crossings.{Crossing, below, are_parallel}
use Rattle.plan_crossings.specs.Sections.{share, places, IsWithin, IsExactFor, IsSized}
use Rattle.plan_crossings.specs.Stands.{stand_at, has, meet, meetings, number_at, numbers_of, numbers, section_of, KnowAll, exclude, have_one_point}
use Rattle.plan_crossings.specs.States.{Route, route_of, points_of, place, AreApart, IsOn, WaysAgree}
use Rattle.plan_crossings.proofs.Known.{numbered, number-within, number-past}
use Rattle.plan_crossings.proofs.Lists.{sum_by-map}
use Rattle.plan_crossings.proofs.Meetings.{never-is, clash-is, is-clash, meeting-is}
use Rattle.plan_crossings.proofs.Middle.{same_middle}
use Rattle.plan_crossings.proofs.Orderly.{orderly}
use Rattle.plan_crossings.proofs.Pairs.{has_way, way_within, excluding, exclude_by, OnePoint, one_point}

-- the number of a train's stand in a state
abbrev number_in : Crossing → List Route → List (List Bool) → List ℕ → ℕ → Option ℕ
number_in c routes stands p i = number_at c stands (points_of routes i) (place p i)

-- the state by the numbers of its stands
abbrev seen : Crossing → List Route → List (List Bool) → List ℕ → List (Option ℕ)
seen c routes stands p = map (number_in c routes stands p) (below (length routes))

seen-at : (c : Crossing) (routes : List Route) (stands : List (List Bool)) (p : List ℕ) (i : ℕ) → i < length routes
    → stand (seen c routes stands p) i ≡ number_in c routes stands p i
seen-at c routes stands p i lt = get_or-map-range_with_len (number_in c routes stands p) 0 (length routes) i i None lt (omega arith)

seen-within : (c : Crossing) (routes : List Route) (stands : List (List Bool)) (p : List ℕ) (i a : ℕ)
    → stand (seen c routes stands p) i ≡ Some a → i < length routes
seen-within c routes stands p i a e =
    ⊎_elim (λ (l : i < length routes). l)
    (λ (l : length routes ≤ i).
    let past : stand (seen c routes stands p) i ≡ None =
    get_or_past (seen c routes stands p) i None
    (omega (arith, length-map-range_with_len (number_in c routes stands p) 0 (length routes))) in
    absurd (let bad : None ≡ Some a = sym past ∙ e in cc))
    (cases_lt i (length routes))

-- Train i is in the layout, and its stand has this number.
record Stands (c : Crossing) (routes : List Route) (stands : List (List Bool)) (p : List ℕ) (i a : ℕ) : Type 0 where
  pub is_train : i < length routes
  pub is_in : place p i < length (points_of routes i)
  pub within : a < length stands
  pub is_stand : get_or stands a [] ≡ stand_at c (points_of routes i) (place p i)

some-same : (a b : ℕ) → Some a ≡ Some b → a ≡ b
some-same a b e = cc

stands-by : (c : Crossing) (routes : List Route) (stands : List (List Bool)) (p : List ℕ) (i a : ℕ) → KnowAll c routes stands
    → stand (seen c routes stands p) i ≡ Some a → Stands c routes stands p i a
stands-by c routes stands p i a know e =
    let lt = seen-within c routes stands p i a e in
    let number : number_in c routes stands p i ≡ Some a = sym (seen-at c routes stands p i lt) ∙ e in
    let is_in = number-within c stands (points_of routes i) (place p i) a number in
    let b = numbered c stands (points_of routes i) (place p i) is_in (know i lt (place p i) is_in) in
    let same : b.0 ≡ a = some-same b.0 a (sym b.1.number ∙ number) in
    record {
      is_train = lt;
      is_in = is_in;
      within = subst (λ n. n < length stands) same b.1.within;
      is_stand = ap (λ n. get_or stands n []) (sym same) ∙ b.1.stand;
    }

-- a train that is on a way has a number, and its stand has the way
record OnWay (c : Crossing) (routes : List Route) (stands : List (List Bool)) (p : List ℕ) (i w a : ℕ) : Type 0 where
  pub stands_by : Stands c routes stands p i a
  pub number : stand (seen c routes stands p) i ≡ Some a
  pub has_it : has (stand_at c (points_of routes i) (place p i)) w ≡ true

on-way : (c : Crossing) (routes : List Route) (stands : List (List Bool)) (p : List ℕ) (i w : ℕ) → KnowAll c routes stands
    → IsOn c routes p i w → (a : ℕ) × OnWay c routes stands p i w a
on-way c routes stands p i w know on =
    let b = numbered c stands (points_of routes i) (place p i) on.is_in (know i on.is_train (place p i) on.is_in) in
    let number : stand (seen c routes stands p) i ≡ Some b.0 = seen-at c routes stands p i on.is_train ∙ b.1.number in (
      b.0,
      record {
        stands_by = stands-by c routes stands p i b.0 know number;
        number = number;
        has_it = has_way c (points_of routes i) (place p i) w on.is_way ∙ on.is_there;
      },
    )

is-on : (c : Crossing) (routes : List Route) (stands : List (List Bool)) (p : List ℕ) (i w a : ℕ) → Stands c routes stands p i a
    → has (stand_at c (points_of routes i) (place p i)) w ≡ true → IsOn c routes p i w
is-on c routes stands p i w a by h =
    let lt = way_within c (points_of routes i) (place p i) w h in
    record {
      is_train = by.is_train;
      is_in = by.is_in;
      is_way = lt;
      is_there = sym (has_way c (points_of routes i) (place p i) w lt) ∙ h;
    }

-- the stands of two trains, by what is known of their numbers
met : (c : Crossing) (routes : List Route) (stands : List (List Bool)) (p : List ℕ) (i j a b : ℕ)
    → Stands c routes stands p i a → Stands c routes stands p j b
    → meeting (meetings c stands) a b ≡ meet c (stand_at c (points_of routes i) (place p i)) (stand_at c (points_of routes j) (place p j))
met c routes stands p i j a b one other =
    meeting-is c stands a b one.within other.within ∙ (λ n. meet c (one.is_stand n) (other.is_stand n))

-- two trains on ways with one and the same point would be at it
no-point : (c : Crossing) (routes : List Route) (p : List ℕ) (i j u v : ℕ) → AreApart routes p → i ≢ j → IsOn c routes p i u
    → IsOn c routes p j v → OnePoint c (stand_at c (points_of routes i) (place p i)) (stand_at c (points_of routes j) (place p j)) u v → ⊥
no-point c routes p i j u v apart differ u_on v_on point =
    let q : ℕ = get_or (points_of routes i) (place p i) 0 in
    let same : q ≡ get_or (points_of routes j) (place p j) 0 =
    same_middle c u v (points_of routes i) (points_of routes j) (place p i) (place p j) point.same_point u_on.is_there v_on.is_there in
    apart i j q u_on.is_train v_on.is_train differ (slice_get-get_or (points_of routes i) (place p i) 0 u_on.is_in)
    (slice_get-get_or (points_of routes j) (place p j) 0 v_on.is_in ∙ ap Some (sym same))

never-met : (c : Crossing) (routes : List Route) (stands : List (List Bool)) (p : List ℕ) (i j a b : ℕ) → AreApart routes p → i ≢ j
    → Stands c routes stands p i a → Stands c routes stands p j b
    → have_one_point c (stand_at c (points_of routes i) (place p i)) (stand_at c (points_of routes j) (place p j)) ≡ true → ⊥
never-met c routes stands p i j a b apart differ one other h =
    let points = one_point c (stand_at c (points_of routes i) (place p i)) (stand_at c (points_of routes j) (place p j)) h in
    no-point c routes p i j points.0 points.1 apart differ (is-on c routes stands p i points.0 a one points.2.one_way)
    (is-on c routes stands p j points.1 b other points.2.other_way) points.2

possible : (c : Crossing) (routes : List Route) (stands : List (List Bool)) (p : List ℕ) → KnowAll c routes stands → AreApart routes p
    → IsPossible (meetings c stands) (seen c routes stands p)
possible c routes stands p know apart a b meets never =
    let i = meets.one in
    let j = meets.other in
    let one = stands-by c routes stands p i a know meets.one_stands in
    let other = stands-by c routes stands p j b know meets.other_stands in
    let here = stand_at c (points_of routes i) (place p i) in
    let there = stand_at c (points_of routes j) (place p j) in
    ⊎_elim (λ (h : have_one_point c here there ≡ true). never-met c routes stands p i j a b apart meets.differ one other h)
    (λ (h : have_one_point c there here ≡ true). never-met c routes stands p j i b a apart (λ e. meets.differ (sym e)) other one h)
    (or_cases (have_one_point c here there) (have_one_point c there here)
    (never-is c here there (sym (met c routes stands p i j a b one other) ∙ never)))

-- trains on ways that aren't parallel have stands that clash
clashes : (c : Crossing) (routes : List Route) (stands : List (List Bool)) (p : List ℕ) (i j a b : ℕ)
    → Stands c routes stands p i a → Stands c routes stands p j b → meeting (meetings c stands) a b ≢ Never
    → exclude c (stand_at c (points_of routes i) (place p i)) (stand_at c (points_of routes j) (place p j)) ≡ true
    → meeting (meetings c stands) a b ≡ Clash
clashes c routes stands p i j a b one other can h =
    let here = stand_at c (points_of routes i) (place p i) in
    let there = stand_at c (points_of routes j) (place p j) in
    let is = met c routes stands p i j a b one other in
    is ∙ is-clash c here there (or_left (exclude c here there) (exclude c there here) h) (λ never. can (is ∙ never))

agree-if-apart : (c : Crossing) (routes : List Route) (stands : List (List Bool)) (p : List ℕ) → KnowAll c routes stands → AreApart routes p
    → IsApart (meetings c stands) (seen c routes stands p) → WaysAgree routes p c
agree-if-apart c routes stands p know apart safe i j u v differ u_on v_on = true_from_ne_false (are_parallel c u v) (λ not_parallel.
    let one = on-way c routes stands p i u know u_on in
    let other = on-way c routes stands p j v know v_on in
    let meets : Meet (seen c routes stands p) one.0 other.0 =
    record { one = i; other = j; differ = differ; one_stands = one.1.number; other_stands = other.1.number } in
    let excluded = exclude_by c (stand_at c (points_of routes i) (place p i)) (stand_at c (points_of routes j) (place p j)) u v
    (record {
      one_within = u_on.is_way;
      other_within = v_on.is_way;
      one_way = one.1.has_it;
      other_way = other.1.has_it;
      not_parallel = not_parallel;
    }) in
    safe one.0 other.0 meets (clashes c routes stands p i j one.0 other.0 one.1.stands_by other.1.stands_by
    (possible c routes stands p know apart one.0 other.0 meets) excluded))

not-excluded : (c : Crossing) (routes : List Route) (stands : List (List Bool)) (p : List ℕ) (i j a b : ℕ) → WaysAgree routes p c → i ≢ j
    → Stands c routes stands p i a → Stands c routes stands p j b
    → exclude c (stand_at c (points_of routes i) (place p i)) (stand_at c (points_of routes j) (place p j)) ≡ true → ⊥
not-excluded c routes stands p i j a b agree differ one other h =
    let ways = excluding c (stand_at c (points_of routes i) (place p i)) (stand_at c (points_of routes j) (place p j)) h in
    let parallel = agree i j ways.0 ways.1 differ (is-on c routes stands p i ways.0 a one ways.2.one_way)
    (is-on c routes stands p j ways.1 b other ways.2.other_way) in
    true≢false (sym parallel ∙ ways.2.not_parallel)

apart-if-agree : (c : Crossing) (routes : List Route) (stands : List (List Bool)) (p : List ℕ) → KnowAll c routes stands
    → WaysAgree routes p c → IsApart (meetings c stands) (seen c routes stands p)
apart-if-agree c routes stands p know agree a b meets clash =
    let i = meets.one in
    let j = meets.other in
    let one = stands-by c routes stands p i a know meets.one_stands in
    let other = stands-by c routes stands p j b know meets.other_stands in
    let here = stand_at c (points_of routes i) (place p i) in
    let there = stand_at c (points_of routes j) (place p j) in
    ⊎_elim (λ (h : exclude c here there ≡ true). not-excluded c routes stands p i j a b agree meets.differ one other h)
    (λ (h : exclude c there here ≡ true). not-excluded c routes stands p j i b a agree (λ e. meets.differ (sym e)) other one h)
    (or_cases (exclude c here there) (exclude c there here)
    (clash-is c here there (sym (met c routes stands p i j a b one other) ∙ clash)))

-- ---- shares by places are those by stands

abbrev default_route : Route
default_route = record { points = []; exits = false }

share-row : (c : Crossing) (stands : List (List Bool)) (r : Route) (s : StandSection) (k : ℕ)
    → get_or (map (share_of s) (numbers_of c stands r)) k 0 ≡ share_of s (number_at c stands r.points k)
share-row c stands r s k = ⊎_elim
    (λ (l : k < places r).
    get_or-map (share_of s) (numbers_of c stands r) k None 0
    (omega (arith, length-map-range_with_len (number_at c stands r.points) 0 (places r)))
    ∙ ap (share_of s) (get_or-map-range_with_len (number_at c stands r.points) 0 (places r) k k None l (omega arith)))
    (λ (l : places r ≤ k).
    get_or_past (map (share_of s) (numbers_of c stands r)) k 0
    (omega (arith, length-map (numbers_of c stands r) (share_of s), length-map-range_with_len (number_at c stands r.points) 0 (places r)))
    ∙ ap (share_of s) (sym (number-past c stands r.points k (omega arith))))
    (cases_lt k (places r))

pub share-is : (c : Crossing) (routes : List Route) (stands : List (List Bool)) (s : StandSection) (i k : ℕ)
    → share (section_of (numbers c routes stands) s) i k ≡ share_of s (number_at c stands (points_of routes i) k)
share-is c routes stands s i k =
    let rows = numbers c routes stands in
    let shares = map (λ row. map (share_of s) row) rows in
    ⊎_elim
    (λ (l : i < length routes).
    let row : get_or shares i [] ≡ map (share_of s) (numbers_of c stands (route_of routes i)) =
    get_or-map (λ row. map (share_of s) row) rows i [] [] (omega (arith, length-map routes (numbers_of c stands)))
    ∙ ap (λ row. map (share_of s) row) (get_or-map (numbers_of c stands) routes i default_route [] l) in
    ap (λ row. get_or row k 0) row ∙ share-row c stands (route_of routes i) s k)
    (λ (l : length routes ≤ i).
    let row : get_or shares i [] ≡ [] =
    get_or_past shares i [] (omega (arith, length-map rows (λ row. map (share_of s) row), length-map routes (numbers_of c stands))) in
    let none : points_of routes i ≡ [] = ap (λ (r : Route). r.points) (get_or_past routes i default_route l) in
    ap (λ row. get_or row k 0) row ∙ ap (share_of s) (sym (number-past c stands [] k (omega arith)))
    ∙ ap (λ points. share_of s (number_at c stands points k)) (sym none))
    (cases_lt i (length routes))

within-is : (c : Crossing) (routes : List Route) (stands : List (List Bool)) (p : List ℕ) (s : StandSection)
    → sum_by (share_of s) (seen c routes stands p)
    ≡ sum_by (λ i. share (section_of (numbers c routes stands) s) i (place p i)) (below (length routes))
within-is c routes stands p s =
    sum_by-map (share_of s) (number_in c routes stands p) (below (length routes))
    ∙ (λ n. sum_by (λ i. sym (share-is c routes stands s i (place p i)) n) (below (length routes)))

to-places : (c : Crossing) (routes : List Route) (stands : List (List Bool)) (p : List ℕ) (s : StandSection)
    → IsWithinStands (seen c routes stands p) s → IsWithin routes p (section_of (numbers c routes stands) s)
to-places c routes stands p s h = let e = within-is c routes stands p s in omega (arith, h, e)

to-stands : (c : Crossing) (routes : List Route) (stands : List (List Bool)) (p : List ℕ) (s : StandSection)
    → IsWithin routes p (section_of (numbers c routes stands) s) → IsWithinStands (seen c routes stands p) s
to-stands c routes stands p s h = let e = within-is c routes stands p s in omega (arith, h, e)

all-of-map : {X Y : Type 0} (P : Y → Type 0) (f : X → Y) (xs : List X) → All P (map f xs) → All (λ x. P (f x)) xs
all-of-map P f xs all k d lt = subst P (get_or-map f xs k d (f d) lt) (all k (f d) (omega (arith, length-map xs f)))

pub exact-for : (c : Crossing) (routes : List Route) (stands : List (List Bool)) (S : List StandSection) → KnowAll c routes stands
    → IsExactStands (meetings c stands) S → IsExactFor c routes (map (section_of (numbers c routes stands)) S)
exact-for c routes stands S know exact p apart = (
  λ within.
      agree-if-apart c routes stands p know apart ((exact (seen c routes stands p) (possible c routes stands p know apart)).0
      (λ k d lt. to-stands c routes stands p _ (all-of-map (IsWithin routes p) (section_of (numbers c routes stands)) S within k d lt))),
  λ agree.
      All-map (IsWithin routes p) (section_of (numbers c routes stands)) S
      (λ k d lt. to-places c routes stands p _ ((exact (seen c routes stands p) (possible c routes stands p know apart)).1
      (apart-if-agree c routes stands p know agree) k d lt)),
)

-- ---- sizes

share_of-few : (n : ℕ) (s : StandSection) → IsSizedStands n s → (o : Option ℕ) → share_of s o ≤ 4
share_of-few n s sized None = omega arith
share_of-few n s sized (Some a) = sized.shares a

pub sized-for : (c : Crossing) (routes : List Route) (stands : List (List Bool)) (n : ℕ) (s : StandSection) → IsSizedStands n s
    → IsSized routes (section_of (numbers c routes stands) s)
sized-for c routes stands n s sized =
    let rows = numbers c routes stands in
    record {
      some_limit = sized.some_limit;
      few_limit = sized.few_limit;
      trains = length-map rows (λ row. map (share_of s) row) ∙ length-map routes (numbers_of c stands);
      per_place = λ i lt.
          let row = get_or-map (λ row. map (share_of s) row) rows i [] [] (omega (arith, length-map routes (numbers_of c stands)))
          ∙ ap (λ row. map (share_of s) row) (get_or-map (numbers_of c stands) routes i default_route [] lt) in
          ap length row ∙ length-map (numbers_of c stands (route_of routes i)) (share_of s)
          ∙ length-map-range_with_len (number_at c stands (points_of routes i)) 0 (places (route_of routes i));
      few_shares = λ i k.
          let e = share-is c routes stands s i k in
          omega (arith, e, share_of-few n s sized (number_at c stands (points_of routes i) k));
    }

-- ---- refusals

pub refused-for : (c : Crossing) (routes : List Route) (stands : List (List Bool)) (e : ClashesRefused) → KnowAll c routes stands
    → IsRefusedStands (meetings c stands) e → IsRefusedFor c routes e
refused-for c routes stands OutOfMemory know h = h
refused-for c routes stands (FreeOfItself a b) know h = orderly c stands a b h.0 h.1
refused-for c routes stands (TooMany n) know h =
    let rows = numbers c routes stands in
    (h.1, (map (section_of rows) h.2.0, length-map h.2.0 (section_of rows) ∙ h.2.1, exact-for c routes stands h.2.0 know h.2.2))
