-- The closure of a train is the least closed group that holds it, and the core of a stuck state is one.
use Rattle.std.proofs.Common.{◌≡◌, ◌≢◌, ◌⊎◌, ℕ, zero, suc, ◌+◌, ◌<◌, ◌≤◌, ◌==◌, Bool, true, false, true≢false, not, ◌||◌, List, [], ◌∷◌, length, Some, None, refl, arith, ap, ◌∙◌, inl, inr, subst, sym}
use Rattle.std.specs.Prelude.{find, filter, unwrap_or, nat_le}
use Rattle.std.specs.List.{list_any, list_all}
use Rattle.std.proofs.lemmas.List.FromFn.{length-range_with_len}
use Rattle.std.proofs.lemmas.Bool.{cases_Bool, eq-eqb, eqb-true, not-true, not-false, not_from_false, le-leb, or_cases, or_parts, or_left, or_right}
use Rattle.std.proofs.lemmas.Bool.Decides.{leb_tells}
use Rattle.rail_model.specs.Table.{Table, trains, last, place}
use Rattle.rail_model.specs.State.{Arrived}
use Rattle.rail_model.specs.Checks.{below}
use Rattle.rail_model.proofs.Found.{Among, find-none, Among-map}
use Rattle.forbidden_states.proofs.Members.{map-among, filter-among, among-filter, among-length, below-among, among-below, find-among}
use Rattle.section_repair.specs.Core.{waits_for, has, is_drawn_in, widened, widened_times, closure, is_unfinished, closures, core}
use Rattle.section_repair.specs.Claims.{ClosuresAreLeast}
use Rattle.section_repair.proofs.FilterLengths.{filter-lt, filter-full}
use Rattle.section_repair.proofs.ListTests.{any-among, among-any, all-among, among-all, not-all, has-among, among-has}

-- With each member the set has all below n that the member waits for.
abbrev pub Closed : Table → List ℕ → List ℕ → Type 0
Closed T p S = (i j : ℕ) → Among S i → j < trains T → waits_for T p i j ≡ true → Among S j

widened-of : (T : Table) (p S : List ℕ) (j : ℕ) → Among (widened T p S) j → (j < trains T) × (is_drawn_in T p S j ≡ true)
widened-of T p S j a = let r = filter-among (is_drawn_in T p S) (below (trains T)) j a in (below-among (trains T) j r.0, r.1)

closed-widened : (T : Table) (p S : List ℕ) → Closed T p S → Closed T p (widened T p S)
closed-widened T p S c i j a l w =
    let r = widened-of T p S i a in
    let m : Among S i = elim (or_cases (has S i) (list_any (λ k. waits_for T p k i) S) r.1) [
      | inl e ↦ has-among S i e
      | inr e ↦ let u = any-among (λ k. waits_for T p k i) S e in c u.0 i u.1 r.0 u.2
    ] in
    among-filter (is_drawn_in T p S) (below (trains T)) j (among-below (trains T) j l)
    (or_left (has S j) (list_any (λ k. waits_for T p k j) S) (among-has S j (c i j m l w)))

closed-kept : (T : Table) (p : List ℕ) (n : ℕ) (S : List ℕ) → Closed T p S → Closed T p (widened_times T p n S)
closed-kept T p zero S c = c
closed-kept T p (suc n) S c = closed-kept T p n (widened T p S) (closed-widened T p S c)

-- a set of numbers below n, as a filter of them
abbrev pub IsSet : Table → List ℕ → Type 0
IsSet T S = (q : ℕ → Bool) × (S ≡ filter q (below (trains T)))

-- a set is closed, or widening it adds a member
grows_or_closed : (T : Table) (p S : List ℕ) → IsSet T S → Closed T p S ⊎ (length S < length (widened T p S))
grows_or_closed T p S set = elim (cases_Bool (list_all (λ j. has S j || not (list_any (λ i. waits_for T p i j) S)) (below (trains T)))) [
  | inl e ↦ inl (λ i j a l w. elim (or_cases (has S j) (not (list_any (λ k. waits_for T p k j) S)) (all-among _ (below (trains T)) j e (among-below (trains T) j l))) [
    | inl h ↦ has-among S j h
    | inr h ↦ absurd (let f : list_any (λ k. waits_for T p k j) S ≡ false = not-true _ h in let t : list_any (λ k. waits_for T p k j) S ≡ true = among-any (λ k. waits_for T p k j) S i a w in true≢false (sym t ∙ f))
  ])
  | inr e ↦
      let r = not-all _ (below (trains T)) e in
      let parts = or_parts (has S r.0) _ r.2 in
      let l : has S r.0 ≡ false = parts.0 in
      let w : list_any (λ k. waits_for T p k r.0) S ≡ true = not-false _ parts.1 in
      let q : ℕ → Bool = set.0 in
      let qf : q r.0 ≡ false = elim (cases_Bool (q r.0)) [
        | inl t ↦ absurd (true≢false (sym (among-has S r.0 (subst (λ v. Among v r.0) (sym set.1) (among-filter q (below (trains T)) r.0 r.1 t))) ∙ l))
        | inr f ↦ f
      ] in
      inr (subst (λ v. length v < length (widened T p S)) (sym set.1)
      (filter-lt q (is_drawn_in T p S) (below (trains T)) r.0
      (λ x a t. or_left (has S x) _ (among-has S x (subst (λ v. Among v x) (sym set.1) (among-filter q (below (trains T)) x a t))))
      r.1 qf (or_right (has S r.0) _ w)))
]

closes : (T : Table) (p : List ℕ) (n : ℕ) (S : List ℕ) → IsSet T S → Closed T p (widened_times T p n S) ⊎ (length S + n ≤ length (widened_times T p n S))
closes T p zero S set = inr (omega arith)
closes T p (suc n) S set = elim (grows_or_closed T p S set) [
  | inl c ↦ inl (closed-kept T p n (widened T p S) (closed-widened T p S c))
  | inr g ↦ elim (closes T p n (widened T p S) (is_drawn_in T p S, refl)) [
    | inl c ↦ inl c
    | inr h ↦ inr (omega arith)
  ]
]

times-set : (T : Table) (p : List ℕ) (n : ℕ) (S : List ℕ) → IsSet T S → IsSet T (widened_times T p n S)
times-set T p zero S set = set
times-set T p (suc n) S set = times-set T p n (widened T p S) (is_drawn_in T p S, refl)

times-holds : (T : Table) (p : List ℕ) (n : ℕ) (S : List ℕ) (i : ℕ) → i < trains T → Among S i → Among (widened_times T p n S) i
times-holds T p zero S i l a = a
times-holds T p (suc n) S i l a =
    times-holds T p n (widened T p S) i l (among-filter (is_drawn_in T p S) (below (trains T)) i (among-below (trains T) i l) (or_left (has S i) _ (among-has S i a)))

-- what a closure is, so far as what is lost depends on it
pub record IsClosing (T : Table) (p c : List ℕ) : Type 0 where
  pub first : ℕ
  pub first_below : first < trains T
  pub first_unfinished : place p first ≢ last T first
  pub holds : Among c first
  pub closed : Closed T p c
  pub set : IsSet T c

closed-of : (T : Table) (p : List ℕ) (n i : ℕ) → i < trains T → n ≡ trains T → Closed T p (widened_times T p n (i ∷ []))
closed-of T p zero i l e = absurd (omega arith)
closed-of T p (suc k) i l e =
    let S : List ℕ = widened T p (i ∷ []) in
    let m : Among S i = among-filter (is_drawn_in T p (i ∷ [])) (below (trains T)) i (among-below (trains T) i l) (or_left (has (i ∷ []) i) _ (among-has (i ∷ []) i (inl refl))) in
    let s : IsSet T S = (is_drawn_in T p (i ∷ []), refl) in
    let t : IsSet T (widened_times T p k S) = times-set T p k S s in
    elim (closes T p k S s) [
      | inl c ↦ c
      | inr h ↦ λ x j a b w. subst (λ v. Among v j) (sym t.1)
          (among-filter t.0 (below (trains T)) j (among-below (trains T) j b)
          (filter-full t.0 (below (trains T)) j
          (let g : length (widened_times T p k S) ≡ length (filter t.0 (below (trains T))) = ap length t.1 in
          let some : 0 < length S = among-length S i m in
          let full : length (below (trains T)) ≡ trains T = length-range_with_len 0 (trains T) in
          omega arith)
          (among-below (trains T) j b)))
    ]

closure-of : (T : Table) (p : List ℕ) (n i : ℕ) → i < trains T → n ≡ trains T → place p i ≢ last T i → IsClosing T p (widened_times T p n (i ∷ []))
closure-of T p zero i l e u = absurd (omega arith)
closure-of T p (suc k) i l e u =
    let S : List ℕ = widened T p (i ∷ []) in
    let m : Among S i = among-filter (is_drawn_in T p (i ∷ [])) (below (trains T)) i (among-below (trains T) i l) (or_left (has (i ∷ []) i) _ (among-has (i ∷ []) i (inl refl))) in
    let s : IsSet T S = (is_drawn_in T p (i ∷ []), refl) in
    let t : IsSet T (widened_times T p k S) = times-set T p k S s in
    record {
      first = i;
      first_below = l;
      first_unfinished = u;
      set = t;
      holds = times-holds T p k S i l m;
      closed = closed-of T p (suc k) i l e;
    }

least-of : (xs : List (List ℕ)) (y : List ℕ) → Among xs y → (c : List ℕ) × Among xs c × ((d : List ℕ) → Among xs d → length c ≤ length d)
least-of [] y a = absurd a
least-of (x ∷ []) y a = (x, inl refl, (λ d b. elim b [ inl e ↦ omega (arith, ap length e) | inr f ↦ absurd f ]))
least-of (x ∷ z ∷ zs) y a =
    let r = least-of (z ∷ zs) z (inl refl) in
    elim (leb_tells (length x) (length r.0)) [
      | inl e ↦ (x, inl refl, (λ d b. elim b [ inl s ↦ omega (arith, ap length s) | inr later ↦ omega (arith, e.1, r.2 d later) ]))
      | inr e ↦ (r.0, inr r.1, (λ d b. elim b [ inl s ↦ omega (arith, e.1, ap length s) | inr later ↦ r.2 d later ]))
    ]

core-in : (T : Table) (p : List ℕ) (y : List ℕ) → Among (closures T p) y → Among (closures T p) (core T p)
core-in T p y a =
    let q : List ℕ → Bool = λ c. list_all (λ d. nat_le (length c) (length d)) (closures T p) in
    (elim (find q (closures T p)) as (λ o. find q (closures T p) ≡ o → Among (closures T p) (unwrap_or o [])) [
      | None ↦ λ e.
          let r = least-of (closures T p) y a in
          absurd (true≢false (sym (among-all (λ d. nat_le (length r.0) (length d)) (closures T p) (λ d b. le-leb (length r.0) (length d) (r.2 d b))) ∙ find-none q (closures T p) r.0 e r.1))
      | Some c ↦ λ e. find-among q (closures T p) c e
    ]) refl

-- The core of a state with an unfinished train is a closure of one.
pub core_is_closing : (T : Table) (p : List ℕ) → (Arrived T p → ⊥) → IsClosing T p (core T p)
core_is_closing T p h = elim (cases_Bool (list_all (λ i. place p i == last T i) (below (trains T)))) [
  | inl e ↦ absurd (h (λ i l. eqb-true _ _ (all-among _ (below (trains T)) i e (among-below (trains T) i l))))
  | inr e ↦
      let r = not-all _ (below (trains T)) e in
      let l : r.0 < trains T = below-among (trains T) r.0 r.1 in
      let a : Among (filter (is_unfinished T p) (below (trains T))) r.0 = among-filter (is_unfinished T p) (below (trains T)) r.0 r.1 (not_from_false _ r.2) in
      let b : Among (closures T p) (closure T p r.0) = Among-map (closure T p) (filter (is_unfinished T p) (below (trains T))) r.0 a in
      let c : Among (closures T p) (core T p) = core-in T p (closure T p r.0) b in
      let m = map-among (closure T p) (filter (is_unfinished T p) (below (trains T))) (core T p) c in
      let f = filter-among (is_unfinished T p) (below (trains T)) m.0 m.1 in
      let k : m.0 < trains T = below-among (trains T) m.0 f.0 in
      subst (IsClosing T p) m.2 (closure-of T p (trains T) m.0 k refl (λ s. true≢false (sym (eq-eqb _ _ s) ∙ not-true _ f.1)))
]

-- ---- the closure is the least closed set

widened-in : (T : Table) (p X S : List ℕ) → ((j : ℕ) → Among X j → Among S j) → Closed T p S → (j : ℕ) → Among (widened T p X) j → Among S j
widened-in T p X S sub c j a =
    let r = widened-of T p X j a in
    elim (or_cases (has X j) (list_any (λ k. waits_for T p k j) X) r.1) [
      | inl e ↦ sub j (has-among X j e)
      | inr e ↦ let u = any-among (λ k. waits_for T p k j) X e in c u.0 j (sub u.0 u.1) r.0 u.2
    ]

times-in : (T : Table) (p : List ℕ) (n : ℕ) (X S : List ℕ) → ((j : ℕ) → Among X j → Among S j) → Closed T p S → (j : ℕ) → Among (widened_times T p n X) j → Among S j
times-in T p zero X S sub c j a = sub j a
times-in T p (suc n) X S sub c j a = times-in T p n (widened T p X) S (widened-in T p X S sub c) c j a

pub closures_are_least : ClosuresAreLeast
closures_are_least T p i l = record {
  holds = among-has (closure T p i) i (times-holds T p (trains T) (i ∷ []) i l (inl refl));
  closed = λ a j b h w. among-has (closure T p i) j (closed-of T p (trains T) i l refl a j (has-among (closure T p i) a h) b w);
  least = λ S h c j a. among-has S j (times-in T p (trains T) (i ∷ []) S
      (λ k b. elim b [ inl e ↦ subst (Among S) e (has-among S i h) | inr f ↦ absurd f ])
      (λ x y b k w. has-among S y (c x y k (among-has S x b) w)) j (has-among (closure T p i) j a));
}
