-- Nothing lost: sections that join, and the list after a round.
use Rattle.std.proofs.Common.{◌≡◌, ◌⊎◌, ℕ, not, zero, suc, ◌+◌, ◌-◌, ◌≤◌, ◌==◌, Bool, true, false, true≢false, ◌&&◌, ◌||◌, List, [], ◌∷◌, ◌++◌, map, length, Some, None, refl, arith, ap, ◌∙◌, inl, inr, subst, sym, cond}
use Rattle.std.specs.Prelude.{min, max, count_by, zip, remove, slice_index_or}
use Rattle.std.specs.List.{list_all, position_from}
use Rattle.std.proofs.lemmas.List.{length-map}
use Rattle.std.proofs.lemmas.Bool.{cases_Bool, eqb-true, and_parts, or_cases}
use Rattle.std.proofs.lemmas.Option.{none-some, same_Some}
use Rattle.std.proofs.lemmas.Slice.Zip.{firsts-zip, seconds-zip}
use Rattle.rail_model.specs.Table.{Mission}
use Rattle.rail_model.proofs.Found.{Among}
use Rattle.forbidden_states.specs.Forbid.{Stay, AreStays, InStays, stay_of}
use Rattle.section_repair.specs.Joining.{is_same_train, is_same_range, adjoins, joins, hull, union, settled_in}
use Rattle.rail_model.specs.Certificate.{IsIn}
use Rattle.rail_model.specs.Table.{place}
use Rattle.std.proofs.lemmas.List.Sums.{sum_by-cons}
use Rattle.std.proofs.lemmas.Bool.Decides.{leb_tells}
use Rattle.section_repair.proofs.Lost.{IsSound, AreSound}

-- each pair is of one train and of ranges that are equal or adjoin
abbrev pub Fits : List (Stay × Stay) → Type 0
Fits [] = Unit {0}
Fits (x ∷ xs) = (x.0.train ≡ x.1.train) × ((is_same_range x.0 x.1 || adjoins x.0 x.1) ≡ true) × Fits xs

-- how many pairs have different ranges
abbrev pub others_in : List (Stay × Stay) → ℕ
others_in xs = count_by (λ x. not (is_same_range x.0 x.1)) xs

others-cons : (x : Stay × Stay) (xs : List (Stay × Stay)) (b : Bool) → is_same_range x.0 x.1 ≡ b → others_in (x ∷ xs) ≡ cond (not b) 1 0 + others_in xs
others-cons x xs b e = sum_by-cons (λ y. cond (not (is_same_range y.0 y.1)) 1 0) x xs ∙ ap (λ c. cond (not c) 1 0 + others_in xs) e

-- the hull of a pair
abbrev pub hull_of : Stay × Stay → Stay
hull_of x = hull x.0 x.1

same-range : (s t : Stay) → is_same_range s t ≡ true → (s.range.lo ≡ t.range.lo) × (s.range.hi ≡ t.range.hi)
same-range s t h = let ends = and_parts _ _ h in (eqb-true _ _ ends.0, eqb-true _ _ ends.1)

-- a place in the hull of two equal ranges is in both
in-both : (p : List ℕ) (x : Stay × Stay) → x.0.train ≡ x.1.train → is_same_range x.0 x.1 ≡ true → IsIn (place p x.0.train) (hull_of x).range
    → IsIn (place p x.0.train) x.0.range × IsIn (place p x.1.train) x.1.range
in-both p x same e h =
    let ends = same-range x.0 x.1 e in
    let a : x.0.range.lo ≡ x.1.range.lo = ends.0 in
    let b : x.0.range.hi ≡ x.1.range.hi = ends.1 in
    let g = h.0 in let k = h.1 in
    ((omega arith, omega arith), subst (λ v. IsIn (place p v) x.1.range) same (omega arith, omega arith))

-- where no range differs, a state in the union is in both sections
union-both : (p : List ℕ) (xs : List (Stay × Stay)) → Fits xs → others_in xs ≡ 0 → InStays p (map hull_of xs) → InStays p (map (λ x. x.0) xs) × InStays p (map (λ x. x.1) xs)
union-both p [] f z h = (tt, tt)
union-both p (x ∷ xs) f z h = elim (cases_Bool (is_same_range x.0 x.1)) [
  | inl e ↦
      let here = in-both p x f.0 e h.0 in
      let rest = union-both p xs f.2 (omega (arith, others-cons x xs true e)) h.1 in
      ((here.0, rest.0), (here.1, rest.1))
  | inr e ↦ absurd (omega (arith, others-cons x xs false e))
]

-- a place in a union of two ranges that adjoin is in one of them
in-one : (s t : Stay) (k : ℕ) → s.range.lo ≤ s.range.hi → t.range.lo ≤ t.range.hi → adjoins s t ≡ true → min s.range.lo t.range.lo ≤ k → k ≤ max s.range.hi t.range.hi → IsIn k s.range ⊎ IsIn k t.range
in-one s t k fs ft h g l = elim (or_cases (s.range.hi + 1 == t.range.lo) (t.range.hi + 1 == s.range.lo) h) [
  | inl e ↦ let u : s.range.hi + 1 ≡ t.range.lo = eqb-true _ _ e in elim (leb_tells k s.range.hi) [ inl y ↦ inl (omega arith, y.1) | inr y ↦ let z = y.1 in inr (omega arith, omega arith) ]
  | inr e ↦ let u : t.range.hi + 1 ≡ s.range.lo = eqb-true _ _ e in elim (leb_tells k t.range.hi) [ inl y ↦ inr (omega arith, y.1) | inr y ↦ let z = y.1 in inl (omega arith, omega arith) ]
]

-- the stays of both sides aren't empty
abbrev pub Filled : List (Stay × Stay) → Type 0
Filled [] = Unit {0}
Filled (x ∷ xs) = (x.0.range.lo ≤ x.0.range.hi) × (x.1.range.lo ≤ x.1.range.hi) × Filled xs

-- a state in the union is in one of the two
pub union-one : (p : List ℕ) (xs : List (Stay × Stay)) → Fits xs → Filled xs → others_in xs ≡ 1 → InStays p (map hull_of xs) → InStays p (map (λ x. x.0) xs) ⊎ InStays p (map (λ x. x.1) xs)
union-one p [] f fl z h = absurd (omega arith)
union-one p (x ∷ xs) f fl z h = elim (cases_Bool (is_same_range x.0 x.1)) [
  | inl e ↦
      let here = in-both p x f.0 e h.0 in
      elim (union-one p xs f.2 fl.2 (omega (arith, others-cons x xs true e)) h.1) [ inl u ↦ inl (here.0, u) | inr u ↦ inr (here.1, u) ]
  | inr e ↦
      let rest = union-both p xs f.2 (omega (arith, others-cons x xs false e)) h.1 in
      let j : adjoins x.0 x.1 ≡ true = elim (or_cases (is_same_range x.0 x.1) (adjoins x.0 x.1) f.1) [ inl t ↦ absurd (true≢false (sym t ∙ e)) | inr t ↦ t ] in
      elim (in-one x.0 x.1 (place p x.0.train) fl.0 fl.1 j h.0.0 h.0.1) [
        | inl i ↦ inl (i, rest.0)
        | inr i ↦ inr (subst (λ v. IsIn (place p v) x.1.range) f.0 i, rest.1)
      ]
]

-- ---- the section of both

fits-zip : (xs : List (Stay × Stay)) → list_all (λ x. is_same_train x.0 x.1) xs ≡ true → list_all (λ x. is_same_range x.0 x.1 || adjoins x.0 x.1) xs ≡ true → Fits xs
fits-zip [] h k = tt
fits-zip (x ∷ xs) h k =
    let same = and_parts (is_same_train x.0 x.1) _ h in
    let near = and_parts (is_same_range x.0 x.1 || adjoins x.0 x.1) _ k in
    (eqb-true _ _ same.0, near.0, fits-zip xs same.1 near.1)

filled-zip : (n : ℕ) (a b : List Stay) → AreStays n a → AreStays n b → Filled (zip a b)
filled-zip n [] b x y = tt
filled-zip n (s ∷ a) [] x y = tt
filled-zip n (s ∷ a) (t ∷ b) x y = (x.1, y.1, filled-zip n a b x.3 y.3)

fresh-hull : (a b : List Stay) (i : ℕ) → stay_of a i ≡ None → stay_of (map hull_of (zip a b)) i ≡ None
fresh-hull [] b i h = refl
fresh-hull (s ∷ a) [] i h = refl
fresh-hull (s ∷ a) (t ∷ b) i h =
    (elim (s.train == i) as (λ c. cond c (Some s) (stay_of a i) ≡ None → cond c (Some (hull s t)) (stay_of (map hull_of (zip a b)) i) ≡ None) [
      | true ↦ λ e. absurd (none-some s (sym e))
      | false ↦ λ e. fresh-hull a b i e
    ]) h

stays-hull : (n : ℕ) (a b : List Stay) → AreStays n a → AreStays n b → AreStays n (map hull_of (zip a b))
stays-hull n [] b x y = tt
stays-hull n (s ∷ a) [] x y = tt
stays-hull n (s ∷ a) (t ∷ b) x y =
    let f = x.1 in let g = y.1 in
    (x.0, omega arith, fresh-hull a b s.train x.2, stays-hull n a b x.3 y.3)

length-hull : (a b : List Stay) → length a ≡ length b → length (map hull_of (zip a b)) ≡ length a
length-hull a b h = length-map (zip a b) hull_of ∙ sym (length-map (zip a b) (λ x. x.0)) ∙ ap length (firsts-zip a b (sym h))

-- the union of two sound sections that join is sound
union_sound : (M : List Mission) (a b : List Stay) → joins a b ≡ true → IsSound M a → IsSound M b → IsSound M (union a b)
union_sound M a b h x y =
    let all = and_parts ((length a == length b) && list_all (λ v. is_same_train v.0 v.1) (zip a b) && (others_in (zip a b) == 1)) _ h in
    let most = and_parts ((length a == length b) && list_all (λ v. is_same_train v.0 v.1) (zip a b)) _ all.0 in
    let trains = and_parts (length a == length b) _ most.0 in
    let one : others_in (zip a b) ≡ 1 = eqb-true _ _ most.1 in
    let e : length a ≡ length b = eqb-true _ _ trains.0 in
    let f : Fits (zip a b) = fits-zip (zip a b) trains.1 all.1 in
    record {
      stays = stays-hull (length M) a b x.stays y.stays;
      some = omega (arith, length-hull a b e, x.some);
      doomed = λ p apart inside run. elim (union-one p (zip a b) f (filled-zip (length M) a b x.stays y.stays) one inside) [
        | inl u ↦ x.doomed p apart (subst (InStays p) (firsts-zip a b (sym e)) u) run
        | inr u ↦ y.doomed p apart (subst (InStays p) (seconds-zip a b (sym e)) u) run
      ];
    }

-- ---- the list after a round

pub append-sound : (M : List Mission) (S : List (List Stay)) (b : List Stay) → AreSound M S → IsSound M b → AreSound M (S ++ b ∷ [])
append-sound M [] b x y c a = elim a [ inl e ↦ subst (IsSound M) e y | inr f ↦ absurd f ]
append-sound M (s ∷ S) b x y c a = elim a [ inl e ↦ x c (inl e) | inr later ↦ append-sound M S b (λ d u. x d (inr u)) y c later ]

remove-none : {X : Type 0} (k : ℕ) (x : X) → Among (remove [] k) x → ⊥
remove-none zero x a = a
remove-none (suc k) x a = a

remove-among : {X : Type 0} (xs : List X) (k : ℕ) (x : X) → Among (remove xs k) x → Among xs x
remove-among [] k x a = absurd (remove-none k x a)
remove-among (y ∷ ys) zero x a = inr a
remove-among (y ∷ ys) (suc k) x a = elim a [ inl e ↦ inl e | inr later ↦ inr (remove-among ys k x later) ]

found-at : {X : Type 0} (q : X → Bool) (xs : List X) (k j : ℕ) (d : X) → position_from q j xs ≡ Some k → (j ≤ k) × Among xs (slice_index_or xs (k - j) d) × (q (slice_index_or xs (k - j) d) ≡ true)
found-at q [] k j d h = cc
found-at q (y ∷ ys) k j d h =
    (elim (q y) as (λ b. q y ≡ b → cond b (Some j) (position_from q (j + 1) ys) ≡ Some k → (j ≤ k) × Among (y ∷ ys) (slice_index_or (y ∷ ys) (k - j) d) × (q (slice_index_or (y ∷ ys) (k - j) d) ≡ true)) [
      | true ↦ λ e f.
          let s : j ≡ k = same_Some j k f in
          let z : k - j ≡ 0 = omega arith in
          rw z (omega arith, inl refl, e)
      | false ↦ λ e f.
          let r = found-at q ys k (j + 1) d f in
          let g : j + 1 ≤ k = r.0 in
          let z : k - j ≡ suc (k - (j + 1)) = omega arith in
          rw z (omega arith, inr r.1, r.2)
    ]) refl h

pub settled_sound : (M : List Mission) (turns : ℕ) (S : List (List Stay)) (b : List Stay) → AreSound M S → IsSound M b → AreSound M (settled_in turns S b)
settled_sound M zero S b x y = append-sound M S b x y
settled_sound M (suc turns) S b x y =
    (elim (position_from (λ a. joins a b) 0 S) as (λ o. position_from (λ a. joins a b) 0 S ≡ o → AreSound M (elim o [
      | None ↦ S ++ b ∷ []
      | Some k ↦ settled_in turns (remove S k) (union (slice_index_or S k []) b)
    ])) [
      | None ↦ λ e. append-sound M S b x y
      | Some k ↦ λ e.
          let f = found-at (λ a. joins a b) S k 0 [] e in
          let z : k - 0 ≡ k = omega arith in
          let among : Among S (slice_index_or S k []) = subst (λ v. Among S (slice_index_or S v [])) z f.1 in
          let join : joins (slice_index_or S k []) b ≡ true = subst (λ v. joins (slice_index_or S v []) b ≡ true) z f.2 in
          settled_sound M turns (remove S k) (union (slice_index_or S k []) b)
          (λ c a. x c (remove-among S k c a))
          (union_sound M (slice_index_or S k []) b join (x (slice_index_or S k []) among) y)
    ]) refl
