-- The numbers of a range that pass a test.
use Rattle.std.proofs.Common.{◌≡◌, ℕ, zero, suc, ◌+◌, ◌<◌, ◌≤◌, List, ◌∷◌, Bool, true, false, cond, Option, Some, None, inl, inr, refl, sym, ap, ◌∙◌, arith, eq-eqb, ne_eqb, lt-ltb, le-ltb}
use Rattle.std.specs.Prelude.{filter, find, ◌&&◌}
use Rattle.std.specs.List.{range_with_len}
use Rattle.std.proofs.lemmas.Bool.{cases_eq, cases_lt}
use Rattle.zone_locks.specs.Zones.{has, with_zone, without}

-- ---- a list that begins with a, or doesn't

has-here : (b : Bool) (z a : ℕ) (xs : List ℕ) → z ≡ a → has z xs ≡ false → has z (cond b (a ∷ xs) xs) ≡ b
has-here true z a xs same none = rw (eq-eqb z a same) refl
has-here false z a xs same none = none

has-past : (b : Bool) (z a : ℕ) (xs : List ℕ) → (z ≡ a → ⊥) → has z (cond b (a ∷ xs) xs) ≡ has z xs
has-past true z a xs other = rw (ne_eqb z a other) refl
has-past false z a xs other = refl

with-before : (b : Bool) (z a : ℕ) (xs : List ℕ) → z < a → with_zone z xs ≡ z ∷ xs → with_zone z (cond b (a ∷ xs) xs) ≡ z ∷ cond b (a ∷ xs) xs
with-before true z a xs low first = rw (lt-ltb z a low) refl
with-before false z a xs low first = first

with-here : (b : Bool) (z a : ℕ) (xs : List ℕ) → z ≡ a → with_zone z xs ≡ z ∷ xs → with_zone z (cond b (a ∷ xs) xs) ≡ a ∷ xs
with-here true z a xs same first = rw (le-ltb z a (omega arith), eq-eqb z a same) refl
with-here false z a xs same first = first ∙ ap (λ x. x ∷ xs) same

with-past : (b : Bool) (z a : ℕ) (xs : List ℕ) → a < z → with_zone z (cond b (a ∷ xs) xs) ≡ cond b (a ∷ with_zone z xs) (with_zone z xs)
with-past true z a xs high = rw (le-ltb z a (omega arith), ne_eqb z a (λ e. omega arith)) refl
with-past false z a xs high = refl

without-here : (b : Bool) (z a : ℕ) (xs : List ℕ) → z ≡ a → without z (cond b (a ∷ xs) xs) ≡ without z xs
without-here true z a xs same = rw (eq-eqb z a same) refl
without-here false z a xs same = refl

without-past : (b : Bool) (z a : ℕ) (xs : List ℕ) → (z ≡ a → ⊥) → without z (cond b (a ∷ xs) xs) ≡ cond b (a ∷ without z xs) (without z xs)
without-past true z a xs other = rw (ne_eqb z a other) refl
without-past false z a xs other = refl

find-front : (p : ℕ → Bool) (b : Bool) (a : ℕ) (xs : List ℕ) → find p (cond b (a ∷ xs) xs) ≡ cond {A = Option ℕ} (b && p a) (Some a) (find p xs)
find-front p true a xs = refl
find-front p false a xs = refl

-- ---- whether a number is among them, and puts itself before larger ones

has-before : (q : ℕ → Bool) (z n a : ℕ) → z < a → has z (filter q (range_with_len a n)) ≡ false
has-before q z zero a low = refl
has-before q z (suc n) a low = has-past (q a) z a (filter q (range_with_len (a + 1) n)) (λ e. omega arith) ∙ has-before q z n (a + 1) (omega arith)

pub has-filter : (q : ℕ → Bool) (z n a : ℕ) → a ≤ z → z < a + n → has z (filter q (range_with_len a n)) ≡ q z
has-filter q z zero a from below = absurd (omega arith)
has-filter q z (suc n) a from below = elim (cases_eq z a) [
  | inl same ↦ has-here (q a) z a (filter q (range_with_len (a + 1) n)) same (has-before q z n (a + 1) (omega arith)) ∙ ap q (sym same)
  | inr other ↦ has-past (q a) z a (filter q (range_with_len (a + 1) n)) other ∙ has-filter q z n (a + 1) (omega arith) (omega arith)
]

first-before : (q : ℕ → Bool) (z n a : ℕ) → z < a → with_zone z (filter q (range_with_len a n)) ≡ z ∷ filter q (range_with_len a n)
first-before q z zero a low = refl
first-before q z (suc n) a low = with-before (q a) z a (filter q (range_with_len (a + 1) n)) low (first-before q z n (a + 1) (omega arith))

-- ---- two tests that differ at one number alone
module _ (q r : ℕ → Bool) (z top : ℕ) (agree : (x : ℕ) → x < top → (x ≡ z → ⊥) → q x ≡ r x) where
  same-past : (n a : ℕ) → z < a → a + n ≤ top → filter q (range_with_len a n) ≡ filter r (range_with_len a n)
  same-past zero a low within = refl
  same-past (suc n) a low within =
      let e = agree a (omega arith) (λ s. omega arith) in
      let h = same-past n (a + 1) (omega arith) (omega arith) in
      λ i. cond (e i) (a ∷ h i) (h i)

  pub with-filter : r z ≡ true → (n a : ℕ) → a ≤ z → z < a + n → a + n ≤ top → with_zone z (filter q (range_with_len a n)) ≡ filter r (range_with_len a n)
  with-filter on zero a from below within = absurd (omega arith)
  with-filter on (suc n) a from below within = elim (cases_lt a z) [
    | inl past ↦
        let e = agree a (omega arith) (λ s. omega arith) in
        let h = with-filter on n (a + 1) (omega arith) (omega arith) (omega arith) in
        with-past (q a) z a (filter q (range_with_len (a + 1) n)) past ∙ (λ i. cond (e i) (a ∷ h i) (h i))
    | inr here ↦
        let same : z ≡ a = omega arith in
        let e : true ≡ r a = sym (ap r (sym same) ∙ on) in
        let h = same-past n (a + 1) (omega arith) (omega arith) in
        with-here (q a) z a (filter q (range_with_len (a + 1) n)) same (first-before q z n (a + 1) (omega arith)) ∙ (λ i. cond (e i) (a ∷ h i) (h i))
  ]

  pub without-filter : r z ≡ false → (n a : ℕ) → a + n ≤ top → without z (filter q (range_with_len a n)) ≡ filter r (range_with_len a n)
  without-filter off zero a within = refl
  without-filter off (suc n) a within =
      let h = without-filter off n (a + 1) (omega arith) in
      elim (cases_eq z a) [
        | inl same ↦
            let e : false ≡ r a = sym (ap r (sym same) ∙ off) in
            without-here (q a) z a (filter q (range_with_len (a + 1) n)) same ∙ (λ i. cond (e i) (a ∷ h i) (h i))
        | inr other ↦
            let e = agree a (omega arith) (λ s. other (sym s)) in
            without-past (q a) z a (filter q (range_with_len (a + 1) n)) other ∙ (λ i. cond (e i) (a ∷ h i) (h i))
      ]

-- ---- the first of them

-- the first number of a range that passes both tests is the first that passes the second among those that pass the first
pub find-filter : (q p s : ℕ → Bool) (n a : ℕ) → ((x : ℕ) → a ≤ x → x < a + n → s x ≡ (q x && p x)) → find s (range_with_len a n) ≡ find p (filter q (range_with_len a n))
find-filter q p s zero a each = refl
find-filter q p s (suc n) a each =
    let e = each a (omega arith) (omega arith) in
    let h = find-filter q p s n (a + 1) (λ x from below. each x (omega arith) (omega arith)) in
    (λ i. cond {A = Option ℕ} (e i) (Some a) (h i)) ∙ sym (find-front p (q a) a (filter q (range_with_len (a + 1) n)))

pub find-first : (s : ℕ → Bool) (k n a : ℕ) → a ≤ k → k < a + n → s k ≡ true → ((j : ℕ) → j < k → s j ≡ false) → find s (range_with_len a n) ≡ Some k
find-first s k zero a from below on before = absurd (omega arith)
find-first s k (suc n) a from below on before = elim (cases_lt a k) [
  | inl past ↦
      let e = before a past in
      let h = find-first s k n (a + 1) (omega arith) (omega arith) on before in
      λ i. cond {A = Option ℕ} (e i) (Some a) (h i)
  | inr here ↦
      let same : k ≡ a = omega arith in
      let e = ap s (sym same) ∙ on in
      (λ i. cond {A = Option ℕ} (e i) (Some a) (find s (range_with_len (a + 1) n))) ∙ ap Some (sym same)
]

pub find-none : (s : ℕ → Bool) (n a : ℕ) → ((j : ℕ) → s j ≡ false) → find s (range_with_len a n) ≡ None
find-none s zero a off = refl
find-none s (suc n) a off = let e = off a in let h = find-none s n (a + 1) off in λ i. cond {A = Option ℕ} (e i) (Some a) (h i)
