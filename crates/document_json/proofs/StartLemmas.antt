-- The first cause why a start is not legal, as the test computes it.
use Rattle.std.proofs.Common.{◌≡◌, ◌≢◌, ◌∙◌, ℕ, suc, ◌<◌, ◌≤◌, List, length, true, Option, Some, None, refl, sym, ap, ap₂, inl, inr, arith, pos, nat_lt}
use Rattle.std.proofs.lemmas.Bool.Decides.{nat_tests, eqb_tells, leb_tells}
use Rattle.std.proofs.lemmas.Int.{ints}
use Rattle.std.specs.Prelude.{int_lt, nat_abs, option_and_then, option_map, not, ◌==◌}
use Rattle.std.specs.Bool.{then_some}
use Rattle.std.proofs.lemmas.Bool.{cases_lt, false_from_ne_true}
use Rattle.rail_model.proofs.Agree.{Decides-int_lt}
use Rattle.rail_model.specs.Checks.{same_point}
use Rattle.rail_model.specs.Table.{Table, trains, last, point, limit, place, count}
use Rattle.rail_model.specs.State.{Legal, StandsAt}
use Rattle.rail_model.specs.Move.{IsFirst, IsOver}
use Rattle.rail_model.specs.Turns.{first_below}
use Rattle.rail_model.proofs.Firsts.{first_below-all, first_below-found, option_or-both, option_or-first, option_or-second}
use Rattle.legal_state.specs.Causes.{IsOut, IsInRange, SharesPoint, HasPair}
use Rattle.legal_state.specs.Illegal.{IsIllegal}
use Rattle.legal_state.specs.declared.judges.Illegal.{Illegal}
use Rattle.legal_state.specs.declared.judges.Illegal.TheVariants.{Length, Range, Clash, Over}
use Rattle.document_json.specs.Start.{out_of_range, meets, first_meeting, over_limit, illegality, start_refusal}
use Rattle.document_json.specs.declared.refused.DocRefused.TheVariants.{StartLength, Start}

-- ---- one train, pair or section

in_range : (T : Table) (p : List ℕ) (i : ℕ) → place p i ≤ last T i → out_of_range T p i ≡ None
in_range T p i h = grind (arith, nat_tests)

is_out : (T : Table) (p : List ℕ) (i : ℕ) → last T i < place p i → out_of_range T p i ≡ Some (Range i)
is_out T p i h = grind (arith, nat_tests)

-- what is said of two trains at these points
abbrev row : ℕ → ℕ → Option ℕ → Option ℕ → Option Illegal
row i k a b = option_and_then (λ q. then_some (nat_lt i k) (Clash i k q)) (option_and_then (λ q. then_some (same_point (Some q) b) q) a)

one_point : (i k q : ℕ) → i < k → row i k (Some q) (Some q) ≡ Some (Clash i k q)
one_point i k q lt = grind (arith, nat_tests)

two_points : (i k : ℕ) (a b : Option ℕ) → (i < k → (q : ℕ) → a ≡ Some q → b ≡ Some q → ⊥) → row i k a b ≡ None
two_points i k None b h = refl
two_points i k (Some q) None h = refl
two_points i k (Some q) (Some r) h = elim (leb_tells (suc i) k) [
  | inl lt ↦ elim (eqb_tells q r) [
    | inl e ↦ absurd (h (omega (arith, lt.1)) q refl (ap Some (sym e.1)))
    | inr d ↦ rw d.0 refl
  ]
  | inr ge ↦ elim (eqb_tells q r) [
    | inl e ↦ rw (e.0, ge.0) refl
    | inr d ↦ rw d.0 refl
  ]
]

apart : (T : Table) (p : List ℕ) (i k : ℕ) → k < trains T → (SharesPoint T p i k → ⊥) → meets T p i k ≡ None
apart T p i k lt h = two_points i k (point T i (place p i)) (point T k (place p k)) (λ less q a b. h (lt, less, (q, a, b)))

pub together : (T : Table) (p : List ℕ) (i k q : ℕ) → SharesPoint T p i k → StandsAt T p i q → meets T p i k ≡ Some (Clash i k q)
together T p i k q h at =
    let same : h.2.0 ≡ q = cc (h.2.1, at) in
    let other : point T k (place p k) ≡ Some q = h.2.2 ∙ ap Some same in
    ap (λ a. row i k a (point T k (place p k))) at ∙ ap (row i k (Some q)) other ∙ one_point i k q h.1

over : (T : Table) (p : List ℕ) (s n l : ℕ) → IsOver T p s → count T s p ≡ pos n → l ≡ limit T s → over_limit T p s ≡ Some (Over s n l)
over T p s n l h counted limited =
    let passes : int_lt (pos (limit T s)) (count T s p) ≡ true = (Decides-int_lt (pos (limit T s)) (count T s p)).1 h.1 in
    ap (λ b. then_some b (Over s (nat_abs (count T s p)) (limit T s))) passes
    ∙ ap₂ (λ z m. Some (Over s (nat_abs z) m)) counted (sym limited)

within : (T : Table) (p : List ℕ) (s : ℕ) → s < length T.sections → (IsOver T p s → ⊥) → over_limit T p s ≡ None
within T p s lt h =
    let fits = false_from_ne_true _ (λ e. h (lt, (Decides-int_lt (pos (limit T s)) (count T s p)).0 e)) in
    ap (λ b. then_some b (Over s (nat_abs (count T s p)) (limit T s))) fits

-- ---- the first of them

module _ (T : Table) (p : List ℕ) where
  none_out : IsInRange T p → first_below (trains T) (out_of_range T p) ≡ None
  none_out ranged = first_below-all (trains T) (out_of_range T p) (λ i lt. in_range T p i (ranged i lt))

  no_partner : (i : ℕ) → (HasPair T p i → ⊥) → first_meeting T p i ≡ None
  no_partner i h = first_below-all (trains T) (meets T p i) (λ k lt. apart T p i k lt (λ pair. h (k, pair)))

  none_meet : ((i : ℕ) → HasPair T p i → ⊥) → first_below (trains T) (first_meeting T p) ≡ None
  none_meet h = first_below-all (trains T) (first_meeting T p) (λ i lt. no_partner i (h i))

  none_over : ((s : ℕ) → IsOver T p s → ⊥) → first_below (length T.sections) (over_limit T p) ≡ None
  none_over h = first_below-all (length T.sections) (over_limit T p) (λ s lt. within T p s lt (h s))

  legal_apart : Legal T p → (i : ℕ) → HasPair T p i → ⊥
  legal_apart legal i h =
      let pair = h.1 in
      let first : i < trains T = omega (arith, pair.0, pair.1) in
      let other : i ≢ h.0 = omega (arith, pair.1) in
      legal.apart i h.0 pair.2.0 first pair.0 other pair.2.1 pair.2.2

  legal_within : Legal T p → (s : ℕ) → IsOver T p s → ⊥
  legal_within legal s h = omega (ints, arith, legal.within s h.0, h.1)

  -- a legal state has no refusal
  pub illegality-none : Legal T p → illegality T p ≡ None
  illegality-none legal =
      option_or-both (first_below (trains T) (out_of_range T p)) _ (none_out legal.in_range)
      (option_or-both (first_below (trains T) (first_meeting T p)) _ (none_meet (legal_apart legal))
      (option_or-both (first_below (length T.sections) (over_limit T p)) None (none_over (legal_within legal)) refl))

  first_out : (i : ℕ) → IsFirst (IsOut T p) i → first_below (trains T) (out_of_range T p) ≡ Some (Range i)
  first_out i h =
      first_below-found (trains T) i (out_of_range T p) (Range i) h.0.0
      (first_below-all i (out_of_range T p) (λ j lt. in_range T p j (not_out j lt)))
      (is_out T p i h.0.1)
    where
      not_out : (j : ℕ) → j < i → place p j ≤ last T j
      not_out j lt = elim (cases_lt (last T j) (place p j)) [
        | inl out ↦ absurd (h.1 j lt (omega (arith, lt, h.0.0), out))
        | inr in_range ↦ in_range
      ]

  first_pair : (i k q : ℕ) → IsFirst (HasPair T p) i → IsFirst (SharesPoint T p i) k → StandsAt T p i q
      → first_below (trains T) (first_meeting T p) ≡ Some (Clash i k q)
  first_pair i k q first second at =
      first_below-found (trains T) i (first_meeting T p) (Clash i k q) (omega (arith, second.0.0, second.0.1))
      (first_below-all i (first_meeting T p) (λ j lt. no_partner j (first.1 j lt)))
      (first_below-found (trains T) k (meets T p i) (Clash i k q) second.0.0
      (first_below-all k (meets T p i) (λ j lt. apart T p i j (omega (arith, lt, second.0.0)) (second.1 j lt)))
      (together T p i k q second.0 at))

  first_over : (s n l : ℕ) → IsFirst (IsOver T p) s → count T s p ≡ pos n → l ≡ limit T s
      → first_below (length T.sections) (over_limit T p) ≡ Some (Over s n l)
  first_over s n l first counted limited =
      first_below-found (length T.sections) s (over_limit T p) (Over s n l) first.0.0
      (first_below-all s (over_limit T p) (λ j lt. within T p j (omega (arith, lt, first.0.0)) (first.1 j lt)))
      (over T p s n l first.0 counted limited)

  -- the first cause is the refusal
  pub illegality-some : (e : Illegal) → length p ≡ trains T → IsIllegal T p e → illegality T p ≡ Some e
  illegality-some (Length n) one_each h = absurd (h.1 one_each)
  illegality-some (Range i) one_each h = option_or-first (first_below (trains T) (out_of_range T p)) _ (Range i) (first_out i h.1)
  illegality-some (Clash i k q) one_each h =
      option_or-second (first_below (trains T) (out_of_range T p)) _ (Clash i k q) (none_out h.1)
      (option_or-first (first_below (trains T) (first_meeting T p)) _ (Clash i k q) (first_pair i k q h.2 h.3 h.4))
  illegality-some (Over s n l) one_each h =
      option_or-second (first_below (trains T) (out_of_range T p)) _ (Over s n l) (none_out h.1)
      (option_or-second (first_below (trains T) (first_meeting T p)) _ (Over s n l) (none_meet h.2)
      (option_or-first (first_below (length T.sections) (over_limit T p)) None (Over s n l) (first_over s n l h.3 h.4 h.5)))

  each_placed : length p ≡ trains T → then_some (not (length p == trains T)) (StartLength (length p)) ≡ None
  each_placed one_each = grind (arith, nat_tests)

  pub start-none : length p ≡ trains T → illegality T p ≡ None → start_refusal T p ≡ None
  start-none one_each h =
      option_or-both (then_some (not (length p == trains T)) (StartLength (length p))) _ (each_placed one_each)
      (option_or-both (option_map Start (illegality T p)) None (ap (option_map Start) h) refl)

  pub start-some : (e : Illegal) → length p ≡ trains T → illegality T p ≡ Some e → start_refusal T p ≡ Some (Start e)
  start-some e one_each h =
      option_or-second (then_some (not (length p == trains T)) (StartLength (length p))) _ (Start e) (each_placed one_each)
      (option_or-first (option_map Start (illegality T p)) None (Start e) (ap (option_map Start) h))
