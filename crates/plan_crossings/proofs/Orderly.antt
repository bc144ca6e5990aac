-- A stand that clashes with one isn't free of itself: no way is parallel to itself.
use Rattle.std.proofs.Common.{◌≡◌, ◌∙◌, sym, refl, ℕ, ◌<◌, Bool, true, false, not, ◌||◌, nat_eq, ◌+◌, map, List, [], length, get_or, arith, ⊎_elim}
use Rattle.std.proofs.lemmas.Bool.{false≢true, eq-eqb, or_cases, or_left, and_left, not_from_true}
use Rattle.std.proofs.lemmas.List.FromFn.{length-map-range_with_len}
use Rattle.clash_sections.specs.declared.meetings.Meeting.TheVariants.{Free, Clash}
use Rattle.clash_sections.specs.Stands.{meeting}
use Rattle.clash_sections.proofs.Bounds.{clash-within}
use Rattle.plan_crossings.specs.Crossings.{Crossing, below, are_parallel, are_together}
use Rattle.plan_crossings.specs.Stands.{has, exclude, meeting_of, meetings}
use Rattle.plan_crossings.proofs.Meetings.{clash-is, free-is, meeting-is}
use Rattle.plan_crossings.proofs.Pairs.{excluding, exclude_by}

not-itself : (c : Crossing) (w : ℕ) → are_parallel c w w ≡ false
not-itself c w = and_left (not (nat_eq w w)) (are_together c w w) (not_from_true (nat_eq w w) (eq-eqb w w refl))

-- a stand with a way excludes itself
itself : (c : Crossing) (stand : List Bool) (w : ℕ) → w < length c.ways → has stand w ≡ true → exclude c stand stand ≡ true
itself c stand w lt on =
    exclude_by c stand stand w w
    (record { one_within = lt; other_within = lt; one_way = on; other_way = on; not_parallel = not-itself c w })

-- so one that excludes another does
excludes-itself : (c : Crossing) (one other : List Bool) → (exclude c one other || exclude c other one) ≡ true → exclude c one one ≡ true
excludes-itself c one other h = ⊎_elim
    (λ (e : exclude c one other ≡ true). let ways = excluding c one other e in itself c one ways.0 ways.2.one_within ways.2.one_way)
    (λ (e : exclude c other one ≡ true). let ways = excluding c other one e in itself c one ways.1 ways.2.other_within ways.2.other_way)
    (or_cases (exclude c one other) (exclude c other one) h)

pub orderly : (c : Crossing) (stands : List (List Bool)) (a b : ℕ) → meeting (meetings c stands) a b ≡ Clash
    → meeting (meetings c stands) a a ≡ Free → ⊥
orderly c stands a b clash free =
    let size = length-map-range_with_len (λ n. map (meeting_of c stands n) (below (n + 1))) 0 (length stands) in
    let within = clash-within (meetings c stands) a b clash in
    let a_lt : a < length stands = omega (arith, within.0, size) in
    let b_lt : b < length stands = omega (arith, within.1, size) in
    let one : List Bool = get_or stands a [] in
    let other : List Bool = get_or stands b [] in
    let excluded = excludes-itself c one other (clash-is c one other (sym (meeting-is c stands a b a_lt b_lt) ∙ clash)) in
    let none = free-is c one one (sym (meeting-is c stands a a a_lt a_lt) ∙ free) in
    false≢true (sym none ∙ or_left (exclude c one one) (exclude c one one) excluded)
