-- Which ways a stand has, and what two stands have between them.
use Rattle.std.proofs.Common.{◌≡◌, ◌∙◌, sym, ap, ℕ, ◌<◌, ◌≤◌, Bool, true, false, ◌&&◌, List, [], length, get_or, arith, ⊎_elim}
use Rattle.std.proofs.lemmas.Bool.{false≢true, and_parts, and_from, not-true, not_from_false, cases_lt}
use Rattle.std.proofs.lemmas.List.{get_or-map, get_or_past, length-map}
use Rattle.std.proofs.lemmas.List.Folds.{Any-from_list_any, list_any_at}
use Rattle.plan_crossings.specs.Crossings.{Crossing, below, way, is_on, are_parallel}
use Rattle.plan_crossings.specs.Stands.{stand_at, has, has_with, excludes, excludes_some, exclude, has_point_of, has_point_of_some, have_one_point}
use Rattle.plan_crossings.proofs.Lists.{get_or-below, length-below}

-- a stand has the ways that the train is on
pub has_way : (c : Crossing) (route : List ℕ) (k w : ℕ) → w < length c.ways → has (stand_at c route k) w ≡ is_on (way c w) route k
has_way c route k w lt = get_or-map (λ points. is_on points route k) c.ways w [] false lt

pub way_within : (c : Crossing) (route : List ℕ) (k w : ℕ) → has (stand_at c route k) w ≡ true → w < length c.ways
way_within c route k w on =
    ⊎_elim (λ (l : w < length c.ways). l)
    (λ (l : length c.ways ≤ w).
    let past : has (stand_at c route k) w ≡ false = get_or_past (stand_at c route k) w false
    (omega (arith, length-map c.ways (λ points. is_on points route k))) in
    absurd (false≢true (sym past ∙ on)))
    (cases_lt w (length c.ways))

-- A stand has such a way.
pub record HasSome (n : ℕ) (test : ℕ → Bool) (stand : List Bool) (w : ℕ) : Type 0 where
  pub within : w < n
  pub is_way : has stand w ≡ true
  pub passes : test w ≡ true

pub some_with : (c : Crossing) (test : ℕ → Bool) (stand : List Bool) → has_with c test stand ≡ true
    → (w : ℕ) × HasSome (length c.ways) test stand w
some_with c test stand h =
    let some = Any-from_list_any _ (below (length c.ways)) h in
    let parts = and_parts (has stand some.1) (test some.1) some.4 in
    let size = length-below (length c.ways) in
    let here = get_or-below (length c.ways) some.0 some.1 (omega (arith, some.2, size)) in
    (some.1, record { within = omega (arith, some.2, some.3, here, size); is_way = parts.0; passes = parts.1 })

pub with_some : (c : Crossing) (test : ℕ → Bool) (stand : List Bool) (w : ℕ) → w < length c.ways → has stand w ≡ true → test w ≡ true
    → has_with c test stand ≡ true
with_some c test stand w lt on passes =
    let both : ℕ → Bool = λ v. has stand v && test v in
    let here : get_or (below (length c.ways)) w 0 ≡ w = get_or-below (length c.ways) w 0 lt in
    list_any_at both (below (length c.ways)) w 0 (omega (arith, length-below (length c.ways)))
    (ap both here ∙ and_from (has stand w) (test w) on passes)

-- Two stands have ways that aren't parallel.
pub record Excluding (c : Crossing) (one other : List Bool) (u v : ℕ) : Type 0 where
  pub one_within : u < length c.ways
  pub other_within : v < length c.ways
  pub one_way : has one u ≡ true
  pub other_way : has other v ≡ true
  pub not_parallel : are_parallel c u v ≡ false

pub excluding : (c : Crossing) (one other : List Bool) → exclude c one other ≡ true → (u : ℕ) × (v : ℕ) × Excluding c one other u v
excluding c one other h =
    let first = some_with c (excludes_some c other) one h in
    let second = some_with c (excludes c first.0) other first.1.passes in (
      first.0,
      second.0,
      record {
        one_within = first.1.within;
        other_within = second.1.within;
        one_way = first.1.is_way;
        other_way = second.1.is_way;
        not_parallel = not-true (are_parallel c first.0 second.0) second.1.passes;
      },
    )

pub exclude_by : (c : Crossing) (one other : List Bool) (u v : ℕ) → Excluding c one other u v → exclude c one other ≡ true
exclude_by c one other u v by =
    with_some c (excludes_some c other) one u by.one_within by.one_way
    (with_some c (excludes c u) other v by.other_within by.other_way (not_from_false (are_parallel c u v) by.not_parallel))

-- Two stands have ways with one and the same point.
pub record OnePoint (c : Crossing) (one other : List Bool) (u v : ℕ) : Type 0 where
  pub one_way : has one u ≡ true
  pub other_way : has other v ≡ true
  pub same_point : has_point_of c u v ≡ true

pub one_point : (c : Crossing) (one other : List Bool) → have_one_point c one other ≡ true → (u : ℕ) × (v : ℕ) × OnePoint c one other u v
one_point c one other h =
    let first = some_with c (has_point_of_some c other) one h in
    let second = some_with c (has_point_of c first.0) other first.1.passes in
    (first.0, second.0, record { one_way = first.1.is_way; other_way = second.1.is_way; same_point = second.1.passes })
