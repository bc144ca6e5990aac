-- Standing wants: one a train, and so at most as many as trains.
use Rattle.std.proofs.Common.{◌≡◌, ℕ, suc, ◌+◌, ◌<◌, ◌≤◌, List, [], ◌∷◌, ◌++◌, length, get_or, Bool, true, false, sym}
use Rattle.std.proofs.Common.{ap, subst, ◌∙◌, arith, inl, inr, length-append, eqb, ◌||◌}
use Rattle.std.specs.List.{remove, list_any}
use Rattle.std.proofs.lemmas.Bool.{cases_lt, cases_eq}
use Rattle.std.proofs.lemmas.Bool.Decides.{eqb_tells}
use Rattle.std.proofs.lemmas.List.Edits.{get_or-remove_below, get_or-remove_above, length-remove}
use Rattle.std.proofs.Math.ListN.{get_or-append}
use Rattle.std.proofs.Math.Seq.{get_or-append_seam}
use Rattle.std.proofs.lemmas.Grind.{get_or_default_zero}
use Rattle.std.proofs.lemmas.Map.Keys.{IsDistinct-from_apart}
use Rattle.std.proofs.lemmas.Map.Steps.{length-le_from_distinct_below}
use Rattle.live_yard.specs.Wants.{AreWants, HasWant}

-- an index of the list that is left, in the list before
shifted : (wants : List ℕ) (at k : ℕ) → at < length wants → k < length (remove wants at)
    → (j : ℕ) × (j < length wants) × (get_or (remove wants at) k 0 ≡ get_or wants j 0)
shifted wants at k within here = elim (cases_lt k at) [
  | inl below ↦ (k, omega arith, get_or-remove_below wants at 0 k below within)
  | inr above ↦ (k + 1, omega (arith, length-remove wants at within), get_or-remove_above wants at 0 k above within)
]

-- a want stands no longer
pub wants-remove : (n : ℕ) (wants : List ℕ) (at : ℕ) → at < length wants → AreWants n wants
    → AreWants n (remove wants at)
wants-remove n wants at within are = record {
  below = λ k here.
      let s = shifted wants at k within here in
      omega (arith, are.below s.0 s.1, s.2);
  one_each = λ j k lt here. apart j k lt here;
}
  where
    apart : (j k : ℕ) → j < k → k < length (remove wants at)
        → get_or (remove wants at) j 0 ≡ get_or (remove wants at) k 0 → ⊥
    apart j k lt here = elim (cases_lt k at) [
      | inl below ↦
          let first : j < at = omega arith in
          let e = get_or-remove_below wants at 0 j first within in
          let f = get_or-remove_below wants at 0 k below within in
          λ same. are.one_each j k lt (omega arith) (sym e ∙ same ∙ f)
      | inr above ↦
          let f = get_or-remove_above wants at 0 k above within in
          let size = length-remove wants at within in
          elim (cases_lt j at) [
            | inl below ↦ let e = get_or-remove_below wants at 0 j below within in
                λ same. are.one_each j (k + 1) (omega arith) (omega arith) (sym e ∙ same ∙ f)
            | inr past ↦ let e = get_or-remove_above wants at 0 j past within in
                λ same. are.one_each (j + 1) (k + 1) (omega arith) (omega arith) (sym e ∙ same ∙ f)
          ]
    ]

-- one more want, of a train that has none
pub wants-append : (n : ℕ) (wants : List ℕ) (i : ℕ) → i < n → (HasWant wants i → ⊥) → AreWants n wants
    → AreWants n (wants ++ i ∷ [])
wants-append n wants i within none are = record {
  below = λ k here. elim (cases_lt k (length wants)) [
    | inl before ↦ omega (arith, are.below k before, get_or-append wants (i ∷ []) 0 k before)
    | inr last ↦
        let at : k ≡ length wants = omega (arith, length-append wants (i ∷ []), here) in
        let there : get_or (wants ++ i ∷ []) k 0 ≡ i = ap (λ (x : ℕ). get_or (wants ++ i ∷ []) x 0) at
        ∙ get_or-append_seam wants i [] 0 in
        omega arith
  ];
  one_each = λ j k lt here. apart j k lt here;
}
  where
    apart : (j k : ℕ) → j < k → k < length (wants ++ i ∷ [])
        → get_or (wants ++ i ∷ []) j 0 ≡ get_or (wants ++ i ∷ []) k 0 → ⊥
    apart j k lt here =
        let first : j < length wants = omega (arith, length-append wants (i ∷ []), here, lt) in
        let e = get_or-append wants (i ∷ []) 0 j first in
        elim (cases_lt k (length wants)) [
          | inl before ↦ let f = get_or-append wants (i ∷ []) 0 k before in
              λ same. are.one_each j k lt before (sym e ∙ same ∙ f)
          | inr last ↦
              let at : k ≡ length wants = omega (arith, length-append wants (i ∷ []), here, last) in
              let there : get_or (wants ++ i ∷ []) k 0 ≡ i = ap (λ (x : ℕ). get_or (wants ++ i ∷ []) x 0) at
              ∙ get_or-append_seam wants i [] 0 in
              λ same. none (j, first, sym e ∙ same ∙ there)
        ]

differ : (a b : ℕ) → (a ≡ b → ⊥) → eqb a b ≡ false
differ a b ne = elim (eqb_tells a b) [ inl same ↦ absurd (ne same.1) | inr other ↦ other.0 ]

-- the same number, found by its test
found : (wants : List ℕ) (q : ℕ) → list_any (eqb q) wants ≡ true → (k : ℕ) × (k < length wants) × (q ≡ get_or wants k 0)
found [] q none = absurd (let e : false ≡ true = none in cc)
found (i ∷ later) q some = elim (cases_eq q i) [
  | inl same ↦ (0, omega arith, same)
  | inr other ↦
      let rest = found later q
      (let no : eqb q i ≡ false = differ q i other in
      subst (λ (b : Bool). (b || list_any (eqb q) later) ≡ true) no some) in
      (suc rest.0, omega (arith, rest.1), rest.2)
]

-- there are no more wants than trains
pub few_wants : (n : ℕ) (wants : List ℕ) → AreWants n wants → length wants ≤ n
few_wants n wants are =
    length-le_from_distinct_below wants n
    (IsDistinct-from_apart eqb wants
    (λ i j d lt here. differ (get_or wants i d) (get_or wants j d) (apart i j d lt here)))
    (λ q some. let f = found wants q some in omega (arith, are.below f.0 f.1, f.2))
  where
    apart : (i j d : ℕ) → i < j → j < length wants → get_or wants i d ≡ get_or wants j d → ⊥
    apart i j d lt here same =
        let first : i < length wants = omega arith in
        let e = get_or_default_zero wants i d first in
        let f = get_or_default_zero wants j d here in
        are.one_each i j lt here (sym e ∙ same ∙ f)

-- and fewer where a train has none
pub few_others : (n : ℕ) (wants : List ℕ) (i : ℕ) → i < n → (HasWant wants i → ⊥) → AreWants n wants → length wants < n
few_others n wants i within none are =
    omega (arith, length-append wants (i ∷ []), few_wants n (wants ++ i ∷ []) (wants-append n wants i within none are))
