-- A row of trains that one waits for, as far as it was followed.
use Rattle.std.proofs.Common.{◌≡◌, ℕ, ◌+◌, ◌-◌, ◌<◌, ◌≤◌, List, [], ◌∷◌, ◌++◌, length, Some, refl, sym, ap, subst, ◌∙◌}
use Rattle.std.proofs.Common.{arith, inl, inr, length-append}
use Rattle.std.specs.Prelude.{All, slice_get, slice_index}
use Rattle.std.proofs.lemmas.Bool.{cases_eq, cases_lt}
use Rattle.std.proofs.lemmas.List.{get_or_append_left, get_or-append_right}
use Rattle.std.proofs.lemmas.List.Elements.{All-get_or, All-weaker}
use Rattle.std.proofs.lemmas.Option.{get_or_from_slice_get, slice_get-get_or}
use Rattle.live_yard.specs.declared.told.Told.{Told}
use Rattle.live_yard.specs.Wants.{HasWant}
use Rattle.live_answers.specs.Seen.{Seen}
use Rattle.live_answers.specs.Waiting.{Joins, blockers}
use Rattle.live_answers.proofs.Joining.{still_has}

-- Of the first trains of the row, so many, all that they wait for stand in the row.
pub record AreFollowed (v : Seen) (tolds : List Told) (i : ℕ) (row : List ℕ) (next : ℕ) : Type 0 where
  pub within : next ≤ length row
  pub first : slice_get row 0 ≡ Some i
  pub waited_for : (k : ℕ) → 0 < k → k < length row
      → (j : ℕ) × (j < k) × HasWant (blockers v tolds (slice_index row j)) (slice_index row k)
  pub all : (k : ℕ) → k < next → All (HasWant row) (blockers v tolds (slice_index row k))

pub none_followed : (v : Seen) (tolds : List Told) (i : ℕ) → AreFollowed v tolds i (i ∷ []) 0
none_followed v tolds i = record {
  within = omega arith;
  first = refl;
  waited_for = λ k later within. absurd (omega (arith, later, within));
  all = λ k none. absurd (omega (arith, none));
}

-- the trains of the row stay where they stand
stays : (row added longer : List ℕ) (k : ℕ) → longer ≡ row ++ added → k < length row
    → slice_index longer k ≡ slice_index row k
stays row added longer k grows within = ap (λ (l : List ℕ). slice_index l k) grows
    ∙ get_or_append_left row added 0 k within

stays_first : (row added longer : List ℕ) (i : ℕ) → longer ≡ row ++ added → 0 < length row → slice_get row 0 ≡ Some i
    → slice_get longer 0 ≡ Some i
stays_first row added longer i grows some first =
    let more : 0 < length longer = omega (arith, some, ap (λ (l : List ℕ). length l) grows, length-append row added) in
    slice_get-get_or longer 0 0 more
    ∙ ap (λ (j : ℕ). Some j) (stays row added longer 0 grows some ∙ get_or_from_slice_get row 0 i 0 first)

-- one more train is followed
pub followed_more : (v : Seen) (tolds : List Told) (i next : ℕ) (row by longer : List ℕ) → next < length row
    → by ≡ blockers v tolds (slice_index row next) → Joins row by longer → AreFollowed v tolds i row next
    → AreFollowed v tolds i longer (next + 1)
followed_more v tolds i next row by longer here by_is joins before = record {
  within = omega (arith, here, size);
  first = stays_first row joins.added longer i joins.grows (omega (arith, here)) before.first;
  waited_for = λ k later within. by_place k later within;
  all = λ k within. followed k within;
}
  where
    size : length longer ≡ length row + length joins.added
    size = ap (λ (l : List ℕ). length l) joins.grows ∙ length-append row joins.added

    at : (k : ℕ) → k < length row → slice_index longer k ≡ slice_index row k
    at k within = stays row joins.added longer k joins.grows within

    by_place : (k : ℕ) → 0 < k → k < length longer
        → (j : ℕ) × (j < k) × HasWant (blockers v tolds (slice_index longer j)) (slice_index longer k)
    by_place k later within = elim (cases_lt k (length row)) [
      | inl old ↦
          let was = before.waited_for k later old in
          let train = subst (λ (x : ℕ). HasWant (blockers v tolds x) (slice_index row k))
          (sym (at was.0 (omega (arith, was.1, old)))) was.2 in (
            was.0,
            was.1,
            subst (λ (x : ℕ). HasWant (blockers v tolds (slice_index longer was.0)) x)
                (sym (at k old)) train,
          )
      | inr new ↦
          let last : slice_index longer k ≡ slice_index joins.added (k - length row) =
          ap (λ (l : List ℕ). slice_index l k) joins.grows
          ∙ get_or-append_right row joins.added (length row) k 0 refl new in
          let has = All-get_or (HasWant by) joins.added (k - length row) 0
          (omega (arith, within, new, size)) joins.from in
          let named = subst (λ (x : ℕ). HasWant by x) (sym last) has in
          let of = subst (λ (bs : List ℕ). HasWant bs (slice_index longer k)) by_is named in (
            next,
            omega (arith, here, new),
            subst (λ (x : ℕ). HasWant (blockers v tolds x) (slice_index longer k))
                (sym (at next here)) of,
          )
    ]

    followed : (k : ℕ) → k < next + 1 → All (HasWant longer) (blockers v tolds (slice_index longer k))
    followed k within = elim (cases_eq k next) [
      | inl now ↦
          let all = subst (λ (bs : List ℕ). All (HasWant longer) bs) by_is joins.all in
          let there = subst (λ (x : ℕ). All (HasWant longer) (blockers v tolds x)) (sym (at next here)) all in
          subst (λ (n : ℕ). All (HasWant longer) (blockers v tolds (slice_index longer n))) (sym now) there
      | inr other ↦
          let old : k < next = omega (arith, within, other) in
          let has = before.all k old in
          let more = All-weaker (HasWant row) (HasWant longer)
          (λ x had. subst (λ (l : List ℕ). HasWant l x) (sym joins.grows) (still_has row joins.added x had)) _ has in
          subst (λ (x : ℕ). All (HasWant longer) (blockers v tolds x)) (sym (at k (omega (arith, old, here)))) more
    ]
