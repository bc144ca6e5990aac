-- What is known of two stands, and of their numbers.
use Rattle.std.proofs.Common.{◌≡◌, ◌≢◌, ◌∙◌, ap, refl, ℕ, ◌+◌, ◌<◌, ◌≤◌, max, min, Bool, true, false, ◌||◌, List, [], length, map, get_or, arith, ⊎_elim, if◌then◌else◌}
use Rattle.std.proofs.lemmas.Bool.{cases_lt}
use Rattle.std.proofs.lemmas.List.FromFn.{get_or-map-range_with_len}
use Rattle.clash_sections.specs.declared.meetings.Meeting.{Meeting}
use Rattle.clash_sections.specs.declared.meetings.Meeting.TheVariants.{Free, Clash, Never}
use Rattle.clash_sections.specs.Stands.{meeting}
use Rattle.plan_crossings.specs.Crossings.{Crossing, below}
use Rattle.plan_crossings.specs.Stands.{exclude, have_one_point, meet, meeting_of, meetings}

or-comm : (x y : Bool) → (x || y) ≡ (y || x)
or-comm true true = refl
or-comm true false = refl
or-comm false true = refl
or-comm false false = refl

-- what two tests say of two stands: whether they never meet, and whether they clash
abbrev judged : Bool → Bool → Meeting
judged never clash = if never then Never else (if clash then Clash else Free)

pub meet-comm : (c : Crossing) (one other : List Bool) → meet c one other ≡ meet c other one
meet-comm c one other =
    let never = or-comm (have_one_point c one other) (have_one_point c other one) in
    let clash = or-comm (exclude c one other) (exclude c other one) in
    λ i. judged (never i) (clash i)

judged-never : (never clash : Bool) → judged never clash ≡ Never → never ≡ true
judged-never true clash e = refl
judged-never false true e = cc
judged-never false false e = cc

judged-clash : (never clash : Bool) → judged never clash ≡ Clash → clash ≡ true
judged-clash true clash e = cc
judged-clash false true e = refl
judged-clash false false e = cc

judged-free : (never clash : Bool) → judged never clash ≡ Free → clash ≡ false
judged-free true clash e = cc
judged-free false true e = cc
judged-free false false e = refl

clash-judged : (never clash : Bool) → clash ≡ true → judged never clash ≢ Never → judged never clash ≡ Clash
clash-judged true clash e possible = absurd (possible refl)
clash-judged false true e possible = refl
clash-judged false false e possible = cc

pub never-is : (c : Crossing) (one other : List Bool) → meet c one other ≡ Never
    → (have_one_point c one other || have_one_point c other one) ≡ true
never-is c one other = judged-never (have_one_point c one other || have_one_point c other one) (exclude c one other || exclude c other one)

pub clash-is : (c : Crossing) (one other : List Bool) → meet c one other ≡ Clash → (exclude c one other || exclude c other one) ≡ true
clash-is c one other = judged-clash (have_one_point c one other || have_one_point c other one) (exclude c one other || exclude c other one)

pub free-is : (c : Crossing) (one other : List Bool) → meet c one other ≡ Free → (exclude c one other || exclude c other one) ≡ false
free-is c one other = judged-free (have_one_point c one other || have_one_point c other one) (exclude c one other || exclude c other one)

pub is-clash : (c : Crossing) (one other : List Bool) → (exclude c one other || exclude c other one) ≡ true → meet c one other ≢ Never
    → meet c one other ≡ Clash
is-clash c one other = clash-judged (have_one_point c one other || have_one_point c other one) (exclude c one other || exclude c other one)

-- the entry of two numbers, the higher first
entry-is : (c : Crossing) (stands : List (List Bool)) (high low : ℕ) → high < length stands → low ≤ high
    → get_or (get_or (meetings c stands) high []) low Free ≡ meet c (get_or stands low []) (get_or stands high [])
entry-is c stands high low lt le =
    let row : get_or (meetings c stands) high [] ≡ map (meeting_of c stands high) (below (high + 1)) =
    get_or-map-range_with_len (λ a. map (meeting_of c stands a) (below (a + 1))) 0 (length stands) high high [] lt (omega arith) in
    ap (λ r. get_or r low Free) row
    ∙ get_or-map-range_with_len (meeting_of c stands high) 0 (high + 1) low low Free (omega arith) (omega arith)

pub meeting-is : (c : Crossing) (stands : List (List Bool)) (a b : ℕ) → a < length stands → b < length stands
    → meeting (meetings c stands) a b ≡ meet c (get_or stands a []) (get_or stands b [])
meeting-is c stands a b a_lt b_lt =
    ⊎_elim
    (λ (l : a < b).
    let high : max a b ≡ b = omega arith in
    let low : min a b ≡ a = omega arith in
    (λ i. get_or (get_or (meetings c stands) (high i) []) (low i) Free) ∙ entry-is c stands b a b_lt (omega arith))
    (λ (l : b ≤ a).
    let high : max a b ≡ a = omega arith in
    let low : min a b ≡ b = omega arith in
    (λ i. get_or (get_or (meetings c stands) (high i) []) (low i) Free) ∙ entry-is c stands a b a_lt l
    ∙ meet-comm c (get_or stands b []) (get_or stands a []))
    (cases_lt a b)
