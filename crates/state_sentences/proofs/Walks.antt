-- Walks from a train to the one that it waits for, and so on; and what they say of circles.
use Rattle.std.proofs.Common.{◌≡◌, ◌∙◌, ℕ, zero, suc, ◌+◌, ◌-◌, ◌<◌, ◌≤◌, List, [], ◌∷◌, ◌++◌, length, get_or, sym, ap, subst, arith, inl, inr}
use Rattle.std.specs.Prelude.{Option, Some, None}
use Rattle.std.proofs.lemmas.Bool.{cases_lt, cases_eq}
use Rattle.std.proofs.lemmas.List.{get_or_push, get_or_append_left, length_push}
use Rattle.rail_model.specs.Table.{Table, trains}
use Rattle.state_sentences.specs.Circle.{waits_for, IsCircle, IsCircleFrom}

-- n steps from the first train: each train waits for the next one, and none after the first is the first again.
pub record IsWalk (T : Table) (p : List ℕ) (first n : ℕ) (w : List ℕ) : Type 0 where
  pub size : length w ≡ n + 1
  pub starts : get_or w 0 0 ≡ first
  pub members : (k : ℕ) → k ≤ n → get_or w k 0 < trains T
  pub next : (k : ℕ) → k < n → waits_for T p (get_or w k 0) ≡ Some (get_or w (k + 1) 0)
  pub away : (k : ℕ) → 0 < k → k ≤ n → get_or w k 0 ≡ first → ⊥

some_same : (a b : ℕ) → Some a ≡ Some b → a ≡ b
some_same a b e = cc

some_none : (o : Option ℕ) (j : ℕ) → o ≡ None → o ≡ Some j → ⊥
some_none o j none some = cc

-- one step more
pub walk_goes : (T : Table) (p : List ℕ) (first n next : ℕ) (w : List ℕ) → IsWalk T p first n w
    → waits_for T p (get_or w n 0) ≡ Some next → next < trains T → (next ≡ first → ⊥) → IsWalk T p first (n + 1) (w ++ next ∷ [])
walk_goes T p first n next w walk step lt other = record {
  size = omega (arith, length_push w next, walk.size);
  starts = old 0 (omega arith) ∙ walk.starts;
  members = λ k low. elim (cases_eq k (n + 1)) [
    | inl here ↦ subst (λ (j : ℕ). get_or (w ++ next ∷ []) j 0 < trains T) (sym here) (subst (λ (j : ℕ). j < trains T) (sym new) lt)
    | inr before ↦ subst (λ (j : ℕ). j < trains T) (sym (old k (omega arith))) (walk.members k (omega arith))
  ];
  next = λ k low. elim (cases_eq k n) [
    | inl here ↦ ap (waits_for T p) (old k (omega arith) ∙ ap (λ (j : ℕ). get_or w j 0) here) ∙ step
        ∙ ap Some (sym (ap (λ (j : ℕ). get_or (w ++ next ∷ []) (j + 1) 0) here ∙ new))
    | inr before ↦ ap (waits_for T p) (old k (omega arith)) ∙ walk.next k (omega arith) ∙ ap Some (sym (old (k + 1) (omega arith)))
  ];
  away = λ k some low same. elim (cases_eq k (n + 1)) [
    | inl here ↦ other (sym new ∙ ap (λ (j : ℕ). get_or (w ++ next ∷ []) j 0) (sym here) ∙ same)
    | inr before ↦ walk.away k some (omega arith) (sym (old k (omega arith)) ∙ same)
  ];
}
  where
    old : (k : ℕ) → k ≤ n → get_or (w ++ next ∷ []) k 0 ≡ get_or w k 0
    old k low = get_or_append_left w (next ∷ []) 0 k (omega (arith, walk.size))

    new : get_or (w ++ next ∷ []) (n + 1) 0 ≡ next
    new = get_or_push w next 0 (n + 1) walk.size

-- from a train that a walk comes to twice it goes on the same way
goes_alike : (T : Table) (p : List ℕ) (first n : ℕ) (w : List ℕ) (j k : ℕ) → IsWalk T p first n w → j < k → get_or w j 0 ≡ get_or w k 0
    → (m : ℕ) → k + m ≤ n → get_or w (j + m) 0 ≡ get_or w (k + m) 0
goes_alike T p first n w j k walk lt same zero low =
    let here : j + 0 ≡ j = omega arith in
    let there : k + 0 ≡ k = omega arith in
    rw (here, there) same
goes_alike T p first n w j k walk lt same (suc m) low =
    let before = goes_alike T p first n w j k walk lt same m (omega arith) in
    let here : waits_for T p (get_or w (j + m) 0) ≡ Some (get_or w (j + m + 1) 0) = walk.next (j + m) (omega arith) in
    let there : waits_for T p (get_or w (k + m) 0) ≡ Some (get_or w (k + m + 1) 0) = walk.next (k + m) (omega arith) in
    let one : j + suc m ≡ j + m + 1 = omega arith in
    let other : k + suc m ≡ k + m + 1 = omega arith in
    rw (one, other) (some_same _ _ (sym here ∙ ap (waits_for T p) before ∙ there))

-- a walk that leads back comes to no train twice
goes_once : (T : Table) (p : List ℕ) (first n : ℕ) (w : List ℕ) (j k : ℕ) → IsWalk T p first n w
    → waits_for T p (get_or w n 0) ≡ Some first → j < k → k ≤ n → get_or w j 0 ≡ get_or w k 0 → ⊥
goes_once T p first n w j k walk step lt low same =
    let whole : k + (n - k) ≡ n = omega arith in
    let met : get_or w (j + (n - k)) 0 ≡ get_or w (k + (n - k)) 0 = goes_alike T p first n w j k walk lt same (n - k) (omega arith) in
    let onward : waits_for T p (get_or w (j + (n - k)) 0) ≡ Some (get_or w (j + (n - k) + 1) 0) = walk.next (j + (n - k)) (omega arith) in
    let home : get_or w (j + (n - k) + 1) 0 ≡ first
    = some_same _ _ (sym onward ∙ ap (waits_for T p) (met ∙ ap (λ (i : ℕ). get_or w i 0) whole) ∙ step) in
    walk.away (j + (n - k) + 1) (omega arith) (omega arith) home

-- a walk that leads back is a circle, once round
pub walk_closes : (T : Table) (p : List ℕ) (first n : ℕ) (w : List ℕ) → IsWalk T p first n w → n < trains T
    → waits_for T p (get_or w n 0) ≡ Some first → IsCircleFrom T p first w
walk_closes T p first n w walk few step = record {
  circle = record {
    some = omega (arith, walk.size);
    few = omega (arith, walk.size);
    members = λ k lt. walk.members k (omega (arith, walk.size));
    next = λ k lt. walk.next k (omega (arith, walk.size));
    back =
        let last : length w - 1 ≡ n = omega (arith, walk.size) in
        ap (λ (j : ℕ). waits_for T p (get_or w j 0)) last ∙ step ∙ ap Some (sym walk.starts);
  };
  first = walk.starts;
  once = λ j k lt within. goes_once T p first n w j k walk step lt (omega (arith, walk.size));
}

-- a circle from the first train goes as the walk goes
agree : (T : Table) (p c : List ℕ) (first n : ℕ) (w : List ℕ) → IsCircle T p c → get_or c 0 0 ≡ first → IsWalk T p first n w
    → (k : ℕ) → k ≤ n → k < length c → get_or c k 0 ≡ get_or w k 0
agree T p c first n w circle head walk zero low lt = head ∙ sym walk.starts
agree T p c first n w circle head walk (suc k) low lt =
    let one : k + 1 ≡ suc k = omega arith in
    let before : get_or c k 0 ≡ get_or w k 0 = agree T p c first n w circle head walk k (omega arith) (omega arith) in
    let here : waits_for T p (get_or c k 0) ≡ Some (get_or c (k + 1) 0) = circle.next k (omega arith) in
    let there : waits_for T p (get_or w k 0) ≡ Some (get_or w (k + 1) 0) = walk.next k (omega arith) in
    let same : get_or c (k + 1) 0 ≡ get_or w (k + 1) 0 = some_same _ _ (sym here ∙ ap (waits_for T p) before ∙ there) in
    subst (λ (j : ℕ). get_or c j 0 ≡ get_or w j 0) one same

-- so no circle is as short as a walk
pub no_short_circle : (T : Table) (p c : List ℕ) (first n : ℕ) (w : List ℕ) → IsCircle T p c → get_or c 0 0 ≡ first → IsWalk T p first n w
    → length c ≤ n → ⊥
no_short_circle T p c first n w circle head walk low =
    let some : 0 < length c = circle.some in
    let whole : length c - 1 + 1 ≡ length c = omega arith in
    let same : get_or c (length c - 1) 0 ≡ get_or w (length c - 1) 0 = agree T p c first n w circle head walk (length c - 1) (omega arith) (omega arith) in
    let onward : waits_for T p (get_or w (length c - 1) 0) ≡ Some (get_or w (length c - 1 + 1) 0) = walk.next (length c - 1) (omega arith) in
    let home : get_or w (length c - 1 + 1) 0 ≡ get_or c 0 0 = some_same _ _ (sym onward ∙ sym (ap (waits_for T p) same) ∙ circle.back) in
    walk.away (length c) some low (ap (λ (j : ℕ). get_or w j 0) (sym whole) ∙ home ∙ head)

-- each train of a circle waits for one
goes_on : (T : Table) (p c : List ℕ) (k : ℕ) → IsCircle T p c → k < length c → (j : ℕ) × (waits_for T p (get_or c k 0) ≡ Some j)
goes_on T p c k circle lt = elim (cases_lt (k + 1) (length c)) [
  | inl more ↦ (get_or c (k + 1) 0, circle.next k more)
  | inr end ↦
      let last : length c - 1 ≡ k = omega arith in
      (get_or c 0 0, ap (λ (j : ℕ). waits_for T p (get_or c j 0)) (sym last) ∙ circle.back)
]

-- a walk to a train that waits for none is not on a circle
pub no_circle_at_end : (T : Table) (p c : List ℕ) (first n : ℕ) (w : List ℕ) → IsCircle T p c → get_or c 0 0 ≡ first → IsWalk T p first n w
    → waits_for T p (get_or w n 0) ≡ None → ⊥
no_circle_at_end T p c first n w circle head walk none = elim (cases_lt n (length c)) [
  | inl lt ↦
      let same : get_or c n 0 ≡ get_or w n 0 = agree T p c first n w circle head walk n (omega arith) lt in
      let onward = goes_on T p c n circle lt in
      some_none _ onward.0 none (ap (waits_for T p) (sym same) ∙ onward.1)
  | inr low ↦ no_short_circle T p c first n w circle head walk low
]

-- whom the last train of a walk waits for
pub walk_end : (T : Table) (p : List ℕ) (first n : ℕ) (c : List ℕ) (train : ℕ) (o : Option ℕ) → IsWalk T p first n (c ++ train ∷ [])
    → waits_for T p train ≡ o → waits_for T p (get_or (c ++ train ∷ []) n 0) ≡ o
walk_end T p first n c train o walk waits =
    let size : length c ≡ n = omega (arith, length_push c train, walk.size) in
    ap (waits_for T p) (get_or_push c train 0 n size) ∙ waits
