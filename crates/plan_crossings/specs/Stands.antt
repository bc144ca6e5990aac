-- Stands of trains on a crossing: for each of its ways whether the train is on it.
use Rattle.std.specs.Prelude.{ℕ, ◌≡◌, ◌+◌, ◌<◌, ◌==◌, List, [], length, map, position, Bool, true, false, not, ◌&&◌, ◌||◌, nat_eq, if◌then◌else◌, Option, option_and_then, slice_get, slice_index_or}
use Rattle.std.specs.List.{list_any}
use Rattle.std.specs.Cmp.Lexicographic.{pointwise}
use mathlib.Core.Bool.{beq}
use Rattle.clash_sections.specs.declared.meetings.Meeting.{Meeting}
use Rattle.clash_sections.specs.declared.meetings.Meeting.TheVariants.{Free, Clash, Never}
use Rattle.clash_sections.specs.Sections.{StandSection, share_of}
use Rattle.plan_crossings.specs.Crossings.{Crossing, below, way, inner, is_on, are_parallel}
use Rattle.plan_crossings.specs.Sections.{WaySection, places}
use Rattle.plan_crossings.specs.States.{Route, points_of}

-- the stand of a train at a place of its route
abbrev pub stand_at : Crossing → List ℕ → ℕ → List Bool
stand_at c route place = map (λ points. is_on points route place) c.ways

-- whether a stand has a way
abbrev pub has : List Bool → ℕ → Bool
has stand w = slice_index_or stand w false

-- whether of two stands one has a way and the other another one, of ways of which a test holds
abbrev pub has_with : Crossing → (ℕ → Bool) → List Bool → Bool
has_with c test stand = list_any (λ v. has stand v && test v) (below (length c.ways))

-- whether trains on two stands exclude one another: they have ways that aren't parallel
abbrev pub excludes : Crossing → ℕ → ℕ → Bool
excludes c u v = not (are_parallel c u v)

abbrev pub excludes_some : Crossing → List Bool → ℕ → Bool
excludes_some c other u = has_with c (excludes c u) other

abbrev pub exclude : Crossing → List Bool → List Bool → Bool
exclude c one other = has_with c (excludes_some c other) one

-- whether the tracks keep trains on two stands apart: they have ways with one point alone between their ends, and it is the same
abbrev pub has_point_of : Crossing → ℕ → ℕ → Bool
has_point_of c u v = length (inner (way c u)) == 1 && pointwise nat_eq (inner (way c u)) (inner (way c v))

abbrev pub has_point_of_some : Crossing → List Bool → ℕ → Bool
has_point_of_some c other u = has_with c (has_point_of c u) other

abbrev pub have_one_point : Crossing → List Bool → List Bool → Bool
have_one_point c one other = has_with c (has_point_of_some c other) one

-- what is known of trains on two stands
abbrev pub meet : Crossing → List Bool → List Bool → Meeting
meet c one other =
    if have_one_point c one other || have_one_point c other one then Never
    else (if exclude c one other || exclude c other one then Clash else Free)

-- what is known of two of the stands
abbrev pub meeting_of : Crossing → List (List Bool) → ℕ → ℕ → Meeting
meeting_of c stands a b = meet c (slice_index_or stands b []) (slice_index_or stands a [])

-- what is known of a stand with each up to it, for each stand
abbrev pub meetings : Crossing → List (List Bool) → List (List Meeting)
meetings c stands = map (λ a. map (meeting_of c stands a) (below (a + 1))) (below (length stands))

-- whether two stands are the same
abbrev pub same : List Bool → List Bool → Bool
same one other = pointwise beq one other

-- whether a stand is one of these
abbrev pub is_known : List (List Bool) → List Bool → Bool
is_known stands stand = list_any (same stand) stands

-- What was known is known.
abbrev pub AreKept : List (List Bool) → List (List Bool) → Type 0
AreKept old new = (stand : List Bool) → is_known old stand ≡ true → is_known new stand ≡ true

-- The stands have that at each place of a route.
abbrev pub KnowRoute : Crossing → List ℕ → List (List Bool) → Type 0
KnowRoute c route stands = (k : ℕ) → k < length route → is_known stands (stand_at c route k) ≡ true

-- And of each train.
abbrev pub KnowAll : Crossing → List Route → List (List Bool) → Type 0
KnowAll c routes stands = (i : ℕ) → i < length routes → KnowRoute c (points_of routes i) stands

-- the number of a train's stand at a place of its route, if it is in the layout there
abbrev pub number_at : Crossing → List (List Bool) → List ℕ → ℕ → Option ℕ
number_at c stands route k = option_and_then (λ (q : ℕ). position (same (stand_at c route k)) stands) (slice_get route k)

-- these numbers at each place of a route
abbrev pub numbers_of : Crossing → List (List Bool) → Route → List (Option ℕ)
numbers_of c stands r = map (number_at c stands r.points) (below (places r))

-- and for each train
abbrev pub numbers : Crossing → List Route → List (List Bool) → List (List (Option ℕ))
numbers c routes stands = map (numbers_of c stands) routes

-- a section by stands as one by places
abbrev pub section_of : List (List (Option ℕ)) → StandSection → WaySection
section_of rows s = record { limit = s.limit; shares = map (λ row. map (share_of s) row) rows }
