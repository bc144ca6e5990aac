-- A text names at most one place of a route whose points have no `#` in them.
use Rattle.std.proofs.Common.{◌≡◌, ◌<◌, ◌≤◌, ◌+◌, ◌^◌, ◌==◌, ◌⊎◌, inl, inr, ℕ, List, [], ◌∷◌, ◌++◌, length, take, count_by, get_or, decimal, bytes_eq, Bool, true, not, String, string_bytes, Some, None, refl, sym, ap, ◌∙◌, arith, eq-eqb, eqb-true}
use Rattle.std.specs.Prelude.{if◌then◌else◌, slice_get}
use Rattle.std.specs.List.{list_all}
use Rattle.std.specs.declared.alloc.Global.{Global}
use Rattle.std.proofs.lemmas.Bool.{and_parts, cases_lt, false≢true, or_cases}
use Rattle.std.proofs.lemmas.Fmt.{decimal_injective}
use Rattle.std.proofs.lemmas.List.{take-take}
use Rattle.std.proofs.lemmas.List.Sums.{count_by-le-length, count_by_more_yes, sum_by-take-le}
use Rattle.std.proofs.lemmas.Option.{get_or_from_slice_get, slice_get_within}
use Rattle.std.proofs.lemmas.Slice.Eq.{bytes_eq-Decides}
use Rattle.plan_reading.specs.Places.{counted, is_counted, is_place, is_single, names_there, times}

-- a text has no `#` in it
abbrev pub has_no_hash : List ℕ → Bool
has_no_hash bytes = list_all (λ b. not (b == 35)) bytes

abbrev head_of : List ℕ → ℕ
head_of [] = 0
head_of (b ∷ bytes) = b

abbrev tail_of : List ℕ → List ℕ
tail_of [] = []
tail_of (b ∷ bytes) = bytes

begins_with : (b : ℕ) (bytes : List ℕ) → b ≡ 35 → has_no_hash (b ∷ bytes) ≡ true → ⊥
begins_with b bytes is none = false≢true (sym (ap not (eq-eqb b 35 is)) ∙ (and_parts (not (b == 35)) (has_no_hash bytes) none).0)

later : (b : ℕ) (bytes : List ℕ) → has_no_hash (b ∷ bytes) ≡ true → has_no_hash bytes ≡ true
later b bytes none = (and_parts (not (b == 35)) (has_no_hash bytes) none).1

no_split : (xs ys t : List ℕ) → has_no_hash xs ≡ true → xs ≡ ys ++ 35 ∷ t → ⊥
no_split [] [] t none same = omega (arith, ap length same)
no_split [] (y ∷ ys) t none same = omega (arith, ap length same)
no_split (x ∷ xs) [] t none same = begins_with x xs (ap head_of same) none
no_split (x ∷ xs) (y ∷ ys) t none same = no_split xs ys t (later x xs none) (ap tail_of same)

-- a text is split at its first `#` in one way
one_split : (xs ys s t : List ℕ) → has_no_hash xs ≡ true → has_no_hash ys ≡ true → xs ++ 35 ∷ s ≡ ys ++ 35 ∷ t → (xs ≡ ys) × (s ≡ t)
one_split [] [] s t none also same = (refl, ap tail_of same)
one_split [] (y ∷ ys) s t none also same = absurd (begins_with y ys (sym (ap head_of same)) also)
one_split (x ∷ xs) [] s t none also same = absurd (begins_with x xs (ap head_of same) none)
one_split (x ∷ xs) (y ∷ ys) s t none also same =
    let first : x ≡ y = ap head_of same in
    let (front, back) = one_split xs ys s t (later x xs none) (later y ys also) (ap tail_of same) in
    (ap (λ h. h ∷ xs) first ∙ ap (λ r. y ∷ r) front, back)

-- what passes a test comes once more at each place where it does
rises : {X : Type 0} (test : X → Bool) (xs : List X) (p q : ℕ) (x : X) → p < q → slice_get xs q ≡ Some x → test x ≡ true → count_by test (take (p + 1) xs) < count_by test (take (q + 1) xs)
rises test xs p q x before at passes =
    let here : test (get_or xs q x) ≡ true = ap test (get_or_from_slice_get xs q x x at) ∙ passes in
    let more = count_by_more_yes test xs q x (slice_get_within xs q x at) here in
    let part = take-take (p + 1) q xs (omega arith) in
    let less : count_by test (take (p + 1) (take q xs)) ≤ count_by test (take q xs) = sum_by-take-le (λ y. if test y then 1 else 0) (take q xs) (p + 1) in
    let less_here : count_by test (take (p + 1) xs) ≤ count_by test (take q xs) = rw part at less in
    omega (arith, more, less_here)

-- so a place is known by how many times it has come
same_place : {X : Type 0} (test : X → Bool) (xs : List X) (p q : ℕ) (x y : X) → slice_get xs p ≡ Some x → slice_get xs q ≡ Some y → test x ≡ true → test y ≡ true
    → count_by test (take (p + 1) xs) ≡ count_by test (take (q + 1) xs) → p ≡ q
same_place test xs p q x y at_p at_q passes also same = elim (cases_lt p q) [
  | inl before ↦ absurd (omega (arith, same, rises test xs p q y before at_q also))
  | inr not_before ↦ elim (cases_lt q p) [
    | inl after ↦ absurd (omega (arith, same, rises test xs q p x after at_p passes))
    | inr not_after ↦ omega (arith, not_before, not_after)
  ]
]

-- and what comes but once has one place
before_once : {X : Type 0} (test : X → Bool) (xs : List X) (p q : ℕ) (x y : X) → slice_get xs p ≡ Some x → slice_get xs q ≡ Some y → test x ≡ true → test y ≡ true → count_by test xs ≡ 1 → p < q → ⊥
before_once test xs p q x y at_p at_q passes also once before =
    let here : test (get_or xs p x) ≡ true = ap test (get_or_from_slice_get xs p x x at_p) ∙ passes in
    let more = count_by_more_yes test xs p x (slice_get_within xs p x at_p) here in
    let most : count_by test (take (q + 1) xs) ≤ count_by test xs = sum_by-take-le (λ y. if test y then 1 else 0) xs (q + 1) in
    omega (arith, more, most, once, rises test xs p q y before at_q also)

once_place : {X : Type 0} (test : X → Bool) (xs : List X) (p q : ℕ) (x y : X) → slice_get xs p ≡ Some x → slice_get xs q ≡ Some y → test x ≡ true → test y ≡ true → count_by test xs ≡ 1 → p ≡ q
once_place test xs p q x y at_p at_q passes also once = elim (cases_lt p q) [
  | inl before ↦ absurd (before_once test xs p q x y at_p at_q passes also once before)
  | inr not_before ↦ elim (cases_lt q p) [
    | inl after ↦ absurd (before_once test xs q p y x at_q at_p also passes once after)
    | inr not_after ↦ omega (arith, not_before, not_after)
  ]
]

-- a text that names a place names its point there, in one way or the other
named : (said : List ℕ) (route : List (String Global)) (p : ℕ) → is_place said route p ≡ true
    → (a : String Global) × (slice_get route p ≡ Some a) × ((is_single said route (string_bytes a) ≡ true) ⊎ (is_counted said (take (p + 1) route) (string_bytes a) ≡ true))
named said route p = elim (slice_get route p) as (λ o. names_there said route p o ≡ true → (a : String Global) × (o ≡ Some a) × ((is_single said route (string_bytes a) ≡ true) ⊎ (is_counted said (take (p + 1) route) (string_bytes a) ≡ true))) [
  | None ↦ λ names. absurd (false≢true names)
  | Some a ↦ λ names. (a, refl, or_cases (is_single said route (string_bytes a)) (is_counted said (take (p + 1) route) (string_bytes a)) names)
]

alike : (xs ys : List ℕ) → xs ≡ ys → bytes_eq xs ys ≡ true
alike xs ys = (bytes_eq-Decides xs ys).1

is_point : (said : List ℕ) (route : List (String Global)) (a : List ℕ) → is_single said route a ≡ true → (said ≡ a) × (times a route ≡ 1)
is_point said route a single =
    let (same, once) = and_parts (bytes_eq said a) (times a route == 1) single in
    ((bytes_eq-Decides said a).0 same, eqb-true (times a route) 1 once)

singles : (said : List ℕ) (route : List (String Global)) (p q : ℕ) (a b : String Global) → slice_get route p ≡ Some a → slice_get route q ≡ Some b
    → is_single said route (string_bytes a) ≡ true → is_single said route (string_bytes b) ≡ true → p ≡ q
singles said route p q a b at_p at_q one other =
    let (is_a, once) = is_point said route (string_bytes a) one in
    let is_b = (is_point said route (string_bytes b) other).0 in
    once_place (λ name. bytes_eq (string_bytes a) (string_bytes name)) route p q a b at_p at_q (alike (string_bytes a) (string_bytes a) refl) (alike (string_bytes a) (string_bytes b) (sym is_a ∙ is_b)) once

few_times : (point : List ℕ) (route : List (String Global)) (p : ℕ) → length route < 2 ^ 64 → times point (take (p + 1) route) < 2 ^ 64
few_times point route p few =
    let part : times point (take (p + 1) route) ≤ times point route = sum_by-take-le (λ name. if bytes_eq point (string_bytes name) then 1 else 0) route (p + 1) in
    let all : times point route ≤ length route = count_by-le-length (λ name. bytes_eq point (string_bytes name)) route in
    omega (arith, part, all, few)

counts : (said : List ℕ) (route : List (String Global)) (p q : ℕ) (a b : String Global) → slice_get route p ≡ Some a → slice_get route q ≡ Some b → length route < 2 ^ 64
    → has_no_hash (string_bytes a) ≡ true → has_no_hash (string_bytes b) ≡ true
    → is_counted said (take (p + 1) route) (string_bytes a) ≡ true → is_counted said (take (q + 1) route) (string_bytes b) ≡ true → p ≡ q
counts said route p q a b at_p at_q few none also one other =
    let n = times (string_bytes a) (take (p + 1) route) in
    let k = times (string_bytes b) (take (q + 1) route) in
    let is_a : said ≡ string_bytes a ++ 35 ∷ decimal n = (bytes_eq-Decides said (counted (string_bytes a) n)).0 one in
    let is_b : said ≡ string_bytes b ++ 35 ∷ decimal k = (bytes_eq-Decides said (counted (string_bytes b) k)).0 other in
    let (same, digits) = one_split (string_bytes a) (string_bytes b) (decimal n) (decimal k) none also (sym is_a ∙ is_b) in
    let as_many : n ≡ k = decimal_injective n k (few_times (string_bytes a) route p few) (few_times (string_bytes b) route q few) digits in
    let counted_alike : n ≡ times (string_bytes a) (take (q + 1) route) = as_many ∙ ap (λ point. times point (take (q + 1) route)) (sym same) in
    same_place (λ name. bytes_eq (string_bytes a) (string_bytes name)) route p q a b at_p at_q (alike (string_bytes a) (string_bytes a) refl) (alike (string_bytes a) (string_bytes b) same) counted_alike

mixed : (said : List ℕ) (route part : List (String Global)) (a b : List ℕ) → has_no_hash a ≡ true → is_single said route a ≡ true → is_counted said part b ≡ true → ⊥
mixed said route part a b none one other =
    let is_a = (is_point said route a one).0 in
    let is_b : said ≡ b ++ 35 ∷ decimal (times b part) = (bytes_eq-Decides said (counted b (times b part))).0 other in
    no_split a b (decimal (times b part)) none (sym is_a ∙ is_b)

-- a text names at most one place of a route whose points have no `#` in them
pub one_place : (said : List ℕ) (route : List (String Global)) (p q : ℕ) → ((k : ℕ) (a : String Global) → slice_get route k ≡ Some a → has_no_hash (string_bytes a) ≡ true)
    → length route < 2 ^ 64 → is_place said route p ≡ true → is_place said route q ≡ true → p ≡ q
one_place said route p q plain few names also =
    let (a, at_p, one) = named said route p names in
    let (b, at_q, other) = named said route q also in
    let none = plain p a at_p in
    let none_there = plain q b at_q in
    elim one [
      | inl single ↦ elim other [
        | inl single_too ↦ singles said route p q a b at_p at_q single single_too
        | inr counted_there ↦ absurd (mixed said route (take (q + 1) route) (string_bytes a) (string_bytes b) none single counted_there)
      ]
      | inr counted_here ↦ elim other [
        | inl single_there ↦ absurd (mixed said route (take (p + 1) route) (string_bytes b) (string_bytes a) none_there single_there counted_here)
        | inr counted_there ↦ counts said route p q a b at_p at_q few none none_there counted_here counted_there
      ]
    ]
