-- What the tests of an actor's program say of its zones.
use Rattle.zone_machine.proofs.Prelude.{◌≡◌, ◌⊎◌, ℕ, ◌<◌, ◌==◌, List, [], ◌∷◌, Bool, true, false, true≢false, cond, Option, Some, None, refl, sym, ap, ◌∙◌, subst, inl, inr, arith, eq-eqb, ne_eqb, find, nat_le, not, is_none, is_some, option_map, option_or, IsStrictlyIncreasing, eqb-true, cases_Bool, both_ways, false_from_ne_true, has, Step, Take, first_zone}
use Rattle.std.proofs.Common.{ap₂, le-leb}
use Rattle.std.proofs.lemmas.Bool.{lt-leb, cases_order}
use Rattle.zone_machine.specs.Program.{rest_of, zones_left}
use Rattle.zone_machine.proofs.Places.{same_some, by_option, has-first, has-later, Rises, rises}

-- the first of the zones that isn't one of the others
abbrev outside : List ℕ → List ℕ → Option ℕ
outside others zones = find (λ z. not (has z others)) zones

found-same : (p q : ℕ → Bool) (xs : List ℕ) → ((z : ℕ) → has z xs ≡ true → p z ≡ q z) → find p xs ≡ find q xs
found-same p q [] same = refl
found-same p q (x ∷ xs) same = rw (same x (has-first x xs), found-same p q xs (λ z h. same z (has-later z x xs h))) refl

-- a first zone of both lists goes with neither search
outside-cons : (x : ℕ) (ys xs : List ℕ) → ((z : ℕ) → has z xs ≡ true → x < z) → outside (x ∷ ys) (x ∷ xs) ≡ outside ys xs
outside-cons x ys xs low =
    rw (eq-eqb x x refl) (found-same (λ z. not (has z (x ∷ ys))) (λ z. not (has z ys)) xs (λ z h. rw (ne_eqb z x (λ e. let lt = low z h in omega arith)) refl))

found-has : (p : ℕ → Bool) (xs : List ℕ) (z : ℕ) → find p xs ≡ Some z → has z xs ≡ true
found-has p [] z e = absurd (cc e)
found-has p (x ∷ xs) z e = elim (cases_Bool (p x)) [
  | inl is ↦ let h : x ≡ z = same_some x z (rw is at e) in rw (eq-eqb z x (sym h)) refl
  | inr is ↦ has-later z x xs (found-has p xs z (rw is at e))
]

none_is : (o : Option ℕ) → is_some o ≡ false → o ≡ None
none_is None e = refl
none_is (Some z) e = absurd (true≢false e)

-- what the search says: no held zone lies outside the needed ones, and none is above the first needed one that isn't held
abbrev pub verdict : Option ℕ → Option ℕ → List ℕ → Bool
verdict (Some x) o held = false
verdict None None held = true
verdict None (Some z) held = is_none (find (nat_le z) held)

-- a number below all zones isn't one of them
not-among : (z : ℕ) (xs : List ℕ) → ((y : ℕ) → has y xs ≡ true → z < y) → has z xs ≡ false
not-among z xs low = false_from_ne_true (has z xs) (λ h. let lt = low z h in omega arith)

below-first : (x y : ℕ) (ys : List ℕ) → x < y → ((z : ℕ) → has z ys ≡ true → y < z) → has x (y ∷ ys) ≡ false
below-first x y ys lt low = rw (ne_eqb x y (λ e. omega arith)) (not-among x ys (λ z h. let more = low z h in omega arith))

outside-first : (x : ℕ) (others xs : List ℕ) → has x others ≡ false → outside others (x ∷ xs) ≡ Some x
outside-first x others xs e = rw e refl

begun-first : (x : ℕ) (xs ys : List ℕ) → ((z : ℕ) → has z xs ≡ true → x < z) → ((z : ℕ) → has z ys ≡ true → x < z)
    → verdict (outside ys xs) (outside xs ys) xs ≡ is_some (rest_of xs ys)
    → verdict (outside (x ∷ ys) (x ∷ xs)) (outside (x ∷ xs) (x ∷ ys)) (x ∷ xs) ≡ is_some (rest_of (x ∷ xs) (x ∷ ys))
begun-first x xs ys low_xs low_ys later =
    ap (λ o. verdict o (outside (x ∷ xs) (x ∷ ys)) (x ∷ xs)) (outside-cons x ys xs low_xs)
    ∙ (ap (λ o. verdict (outside ys xs) o (x ∷ xs)) (outside-cons x xs ys low_ys)
    ∙ (above (outside ys xs) (outside xs ys) refl ∙ (later ∙ rest)))
  where
    above : (o found : Option ℕ) → outside xs ys ≡ found → verdict o found (x ∷ xs) ≡ verdict o found xs
    above (Some z) found e = refl
    above None None e = refl
    above None (Some z) e = rw (lt-leb z x (low_ys z (found-has (λ y. not (has y xs)) ys z e))) refl

    rest : is_some (rest_of xs ys) ≡ is_some (rest_of (x ∷ xs) (x ∷ ys))
    rest = rw (eq-eqb x x refl) refl

begun-rises : (xs ys : List ℕ) → Rises xs → Rises ys → verdict (outside ys xs) (outside xs ys) xs ≡ is_some (rest_of xs ys)
begun-rises [] [] r s = refl
begun-rises [] (y ∷ ys) r s = refl
begun-rises (x ∷ xs) [] r s = refl
begun-rises (x ∷ xs) (y ∷ ys) r s = by_order (cases_order x y) (begun-rises xs ys r.1 s.1)
  where
    no_rest : (x ≡ y → ⊥) → is_some (rest_of (x ∷ xs) (y ∷ ys)) ≡ false
    no_rest ne = rw (ne_eqb x y ne) refl

    by_order : (x ≡ y) ⊎ ((x < y) ⊎ (y < x)) → verdict (outside ys xs) (outside xs ys) xs ≡ is_some (rest_of xs ys)
        → verdict (outside (y ∷ ys) (x ∷ xs)) (outside (x ∷ xs) (y ∷ ys)) (x ∷ xs) ≡ is_some (rest_of (x ∷ xs) (y ∷ ys))
    by_order (inl e) later =
        subst (λ z. verdict (outside (z ∷ ys) (x ∷ xs)) (outside (x ∷ xs) (z ∷ ys)) (x ∷ xs) ≡ is_some (rest_of (x ∷ xs) (z ∷ ys))) e
        (begun-first x xs ys r.0 (subst (λ n. (z : ℕ) → has z ys ≡ true → n < z) (sym e) s.0) later)
    by_order (inr (inl lt)) later =
        ap (λ o. verdict o (outside (x ∷ xs) (y ∷ ys)) (x ∷ xs)) (outside-first x (y ∷ ys) xs (below-first x y ys lt s.0)) ∙ sym (no_rest (λ e. omega arith))
    by_order (inr (inr lt)) later =
        ap (λ o. verdict (outside (y ∷ ys) (x ∷ xs)) o (x ∷ xs)) (outside-first y (x ∷ xs) ys (below-first y x xs lt r.0))
        ∙ (none (outside (y ∷ ys) (x ∷ xs)) ∙ sym (no_rest (λ e. omega arith)))
      where
        none : (o : Option ℕ) → verdict o (Some y) (x ∷ xs) ≡ false
        none (Some z) = refl
        none None = rw (le-leb y x (omega arith)) refl

-- what the searches say of whether the held zones begin the needed ones
module _ (held needed : List ℕ) (up : IsStrictlyIncreasing held) (more : IsStrictlyIncreasing needed) where
  begun : verdict (outside needed held) (outside held needed) held ≡ is_some (rest_of held needed)
  begun = begun-rises held needed (rises held up) (rises needed more)

  pub not_begun : is_some (outside needed held) ≡ true → false ≡ is_some (rest_of held needed)
  not_begun some = by_option (outside needed held) (λ none. absurd (both_ways _ (ap is_some none) some)) (λ z is. ap (λ o. verdict o (outside held needed) held) (sym is) ∙ begun)

  pub begun_whole : is_some (outside needed held) ≡ false → outside held needed ≡ None → true ≡ is_some (rest_of held needed)
  begun_whole none whole = sym (ap₂ (λ o i. verdict o i held) (none_is (outside needed held) none) whole) ∙ begun

  pub begun_before : (z : ℕ) → is_some (outside needed held) ≡ false → outside held needed ≡ Some z → is_none (find (nat_le z) held) ≡ is_some (rest_of held needed)
  begun_before z none next = sym (ap₂ (λ o i. verdict o i held) (none_is (outside needed held) none) next) ∙ begun

-- the first needed zone that isn't held is a needed one
pub outside-has : (held needed : List ℕ) (z : ℕ) → outside held needed ≡ Some z → has z needed ≡ true
outside-has held needed z e = found-has (λ y. not (has y held)) needed z e

-- the zone that comes after those that are held is the first needed one that isn't held
zone_after : (held needed rest : List ℕ) → Rises needed → rest_of held needed ≡ Some rest → first_zone rest ≡ outside held needed
zone_after [] [] rest r e = ap first_zone (sym (same_some [] rest e))
zone_after [] (y ∷ ys) rest r e = ap first_zone (sym (same_some (y ∷ ys) rest e))
zone_after (x ∷ xs) [] rest r e = absurd (cc e)
zone_after (x ∷ xs) (y ∷ ys) rest r e = elim (cases_Bool (x == y)) [
  | inl is ↦ zone_after xs ys rest r.1 (rw is at e) ∙ (sym (outside-cons y xs ys r.0) ∙ ap (λ z. outside (z ∷ xs) (y ∷ ys)) (sym (eqb-true x y is)))
  | inr is ↦ let f = rw is at e in absurd (cc f)
]

-- where the held zones begin the needed ones, the next one is taken
pub taken : (given : Option Step) (held needed : List ℕ) → IsStrictlyIncreasing needed → is_some (rest_of held needed) ≡ true
    → option_map (λ z. Take z) (outside held needed) ≡ option_or (cond (is_none (rest_of held needed)) given None) (option_map (λ z. Take z) (first_zone (zones_left held needed)))
taken given held needed more begins = by_option (rest_of held needed)
    (λ none. absurd (both_ways _ (ap is_some none) begins))
    (λ rest e. rw e (ap (option_map (λ z. Take z)) (sym (zone_after held needed rest (rises needed more) e))))
