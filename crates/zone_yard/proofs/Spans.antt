-- Needed zones in a row.
use Rattle.zone_yard.proofs.Prelude.{◌≡◌, ℕ, zero, suc, ◌+◌, ◌-◌, ◌<◌, ◌≤◌, List, [], ◌∷◌, ◌++◌, Bool, true, false, cond, refl, ap, ◌∙◌, arith, eq-eqb, ne_eqb, lt-ltb, append-nil, has, is_above, span}
use Rattle.zone_locks.specs.Zones.{without}

module _ (needed : List ℕ) where
  abbrev pub one : ℕ → List ℕ
  one m = cond (has m needed) (m ∷ []) []

  -- one zone more at the end
  pub span_more : (k n : ℕ) → span needed k (suc n) ≡ span needed k n ++ one (k + n)
  span_more k zero = ap one (let e : k ≡ k + 0 = omega arith in e)
  span_more k (suc n) = go (has k needed) (span_more (k + 1) n ∙ ap (λ m. span needed (k + 1) n ++ one m) (let e : k + 1 + n ≡ k + suc n = omega arith in e))
    where
      go : (b : Bool) → span needed (k + 1) (suc n) ≡ span needed (k + 1) n ++ one (k + suc n)
          → cond b (k ∷ span needed (k + 1) (suc n)) (span needed (k + 1) (suc n)) ≡ cond b (k ∷ span needed (k + 1) n) (span needed (k + 1) n) ++ one (k + suc n)
      go true e = ap (λ l. k ∷ l) e
      go false e = e

  pub span_next : (z : ℕ) → has z needed ≡ true → span needed 0 (z + 1) ≡ span needed 0 z ++ z ∷ []
  span_next z h = ap (span needed 0) (let e : z + 1 ≡ suc z = omega arith in e)
      ∙ (span_more 0 z ∙ (ap (λ m. span needed 0 z ++ one m) (let e : 0 + z ≡ z = omega arith in e) ∙ ap (λ b. span needed 0 z ++ cond b (z ∷ []) []) h))

  pub span_skip : (z : ℕ) → has z needed ≡ false → span needed 0 (z + 1) ≡ span needed 0 z
  span_skip z h = ap (span needed 0) (let e : z + 1 ≡ suc z = omega arith in e)
      ∙ (span_more 0 z ∙ (ap (λ m. span needed 0 z ++ one m) (let e : 0 + z ≡ z = omega arith in e) ∙ (ap (λ b. span needed 0 z ++ cond b (z ∷ []) []) h ∙ append-nil (span needed 0 z))))

  -- a zone after all of them
  pub above_span : (z k n : ℕ) → k + n ≤ z → is_above z (span needed k n) ≡ true
  above_span z k zero le = refl
  above_span z k (suc n) le = go (has k needed) (above_span z (k + 1) n (omega arith))
    where
      go : (b : Bool) → is_above z (span needed (k + 1) n) ≡ true → is_above z (cond b (k ∷ span needed (k + 1) n) (span needed (k + 1) n)) ≡ true
      go true e = rw (lt-ltb k z (let h : k < z = omega arith in h)) e
      go false e = e

  -- a zone before all of them
  pub without_span : (z k n : ℕ) → z < k → without z (span needed k n) ≡ span needed k n
  without_span z k zero lt = refl
  without_span z k (suc n) lt = go (has k needed) (without_span z (k + 1) n (omega arith))
    where
      go : (b : Bool) → without z (span needed (k + 1) n) ≡ span needed (k + 1) n → without z (cond b (k ∷ span needed (k + 1) n) (span needed (k + 1) n)) ≡ cond b (k ∷ span needed (k + 1) n) (span needed (k + 1) n)
      go true e = rw (ne_eqb z k (λ same. absurd (omega arith))) (ap (λ l. k ∷ l) e)
      go false e = e

  -- the first of them is given back, or isn't needed
  pub given_back : (k top : ℕ) → k < top → has k needed ≡ true → without k (span needed k (top - k)) ≡ span needed (k + 1) (top - (k + 1))
  given_back k top lt h = rw (let e : top - k ≡ suc (top - (k + 1)) = omega arith in e) (rw (h, eq-eqb k k refl) (without_span k (k + 1) (top - (k + 1)) (omega arith)))

  pub not_needed : (k top : ℕ) → k < top → has k needed ≡ false → span needed k (top - k) ≡ span needed (k + 1) (top - (k + 1))
  not_needed k top lt h = rw (let e : top - k ≡ suc (top - (k + 1)) = omega arith in e) (rw h refl)

  -- the first of them is held
  pub first_held : (k top : ℕ) → k < top → has k needed ≡ true → has k (span needed k (top - k)) ≡ true
  first_held k top lt h = rw (let e : top - k ≡ suc (top - (k + 1)) = omega arith in e) (rw (h, eq-eqb k k refl) refl)
