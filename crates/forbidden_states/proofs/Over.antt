-- A state is over a section exactly where all trains of its stays are in their ranges.
use Rattle.std.proofs.Common.{◌≡◌, ◌≢◌, ℕ, zero, suc, ◌+◌, ◌-◌, ◌<◌, ◌≤◌, true, false, ◌&&◌, List, [], ◌∷◌, map, length, Some, refl, arith, ap, ◌∙◌, inl, inr, subst, sym}
use Rattle.std.specs.Prelude.{slice_get, pos, ◌<ℤ◌, nat_le, if◌then◌else◌}
use Rattle.std.proofs.lemmas.List.{length-map}
use Rattle.std.proofs.lemmas.Bool.Decides.{eqb_tells, leb_tells}
use Rattle.std.proofs.lemmas.Bool.{eq-eqb, ne_eqb, le-leb}
use Rattle.std.proofs.lemmas.Option.{slice_get_within}
use Rattle.std.proofs.Math.Facts.{ltb_yes, yes_ltb}
use Rattle.rail_model.specs.Sums.{sum_below, total_below}
use Rattle.rail_model.specs.Table.{Mission, Section, limit, share, place, count}
use Rattle.rail_model.specs.Move.{IsOver}
use Rattle.rail_model.specs.Certificate.{Range, IsIn}
use Rattle.rail_model.proofs.Sums.{total_same, sum_same}
use Rattle.forbidden_states.specs.Forbid.{Stay, AreStays, InStays, AreInRange, stay_of, forbidding, marked}
use Rattle.forbidden_states.proofs.Shares.{hit, hit_of, share-marked, section-at}

-- how many of the stays' trains are in their ranges
abbrev pub hits : List ℕ → List Stay → ℕ
hits p [] = 0
hits p (s ∷ b) = hit s.range (place p s.train) + hits p b

total-nat : (f : ℕ → ℕ) (n : ℕ) → total_below (λ i. pos (f i)) n ≡ pos (sum_below f n)
total-nat f zero = refl
total-nat f (suc n) = let e = total-nat f n in rw e refl

sum-zero : (n : ℕ) → sum_below (λ i. 0) n ≡ 0
sum-zero zero = refl
sum-zero (suc n) = omega (arith, sum-zero n)

-- two sums that differ at one number
sum-at : (f g : ℕ → ℕ) (n t : ℕ) → t < n → ((i : ℕ) → i < n → i ≢ t → f i ≡ g i) → g t ≡ 0 → sum_below f n ≡ f t + sum_below g n
sum-at f g zero t l same z = absurd (omega arith)
sum-at f g (suc n) t l same z = elim (eqb_tells t n) [
  | inl e ↦
      let u : t ≡ n = e.1 in
      let s : sum_below f n ≡ sum_below g n = sum_same f g n (λ i k. same i (omega arith) (λ v. omega (arith, v))) in
      let w : g n ≡ 0 = subst (λ v. g v ≡ 0) u z in
      let x : f t ≡ f n = ap f u in
      omega arith
  | inr e ↦
      let d : t ≢ n = e.1 in
      let s : sum_below f n ≡ f t + sum_below g n = sum-at f g n t (omega arith) (λ i k v. same i (omega arith) v) z in
      let w : f n ≡ g n = same n (omega arith) (λ v. d (sym v)) in
      omega arith
]

-- summed over the trains it is the number of hits
sum-hits : (n : ℕ) (p : List ℕ) (b : List Stay) → AreStays n b → sum_below (λ i. hit_of (stay_of b i) (place p i)) n ≡ hits p b
sum-hits n p [] a = sum-zero n
sum-hits n p (s ∷ b) a =
    let other : (i : ℕ) → i < n → i ≢ s.train → hit_of (stay_of (s ∷ b) i) (place p i) ≡ hit_of (stay_of b i) (place p i) =
    λ i l d. rw (ne_eqb s.train i (λ e. d (sym e))) refl in
    let own : hit_of (stay_of b s.train) (place p s.train) ≡ 0 = rw (a.2) refl in
    let t = sum-at (λ i. hit_of (stay_of (s ∷ b) i) (place p i)) (λ i. hit_of (stay_of b i) (place p i)) n s.train a.0 other own in
    let u : hit_of (stay_of (s ∷ b) s.train) (place p s.train) ≡ hit s.range (place p s.train) = rw (eq-eqb s.train s.train refl) refl in
    let v : sum_below (λ i. hit_of (stay_of b i) (place p i)) n ≡ hits p b = sum-hits n p b a.3 in
    cc

pub count-marked : (M : List Mission) (all : List (List Stay)) (s : ℕ) (b : List Stay) (p : List ℕ)
    → slice_get all s ≡ Some b → AreStays (length M) b → AreInRange M p → count (marked M all) s p ≡ pos (hits p b)
count-marked M all s b p at are range =
    total_same (λ i. share (marked M all) i s (place p i)) (λ i. pos (hit_of (stay_of b i) (place p i))) (length M)
    (λ i l. share-marked M all s b i (place p i) at are l (range i l))
    ∙ total-nat (λ i. hit_of (stay_of b i) (place p i)) (length M) ∙ ap (λ n. pos n) (sum-hits (length M) p b are)

pub hit-le : (r : Range) (k : ℕ) → hit r k ≤ 1
hit-le r k = (elim (nat_le r.lo k && nat_le k r.hi) as (λ b. (if b then 1 else 0) ≤ 1) [ true ↦ omega arith | false ↦ omega arith ])

pub hit-in : (r : Range) (k : ℕ) → IsIn k r → hit r k ≡ 1
hit-in r k i = rw (le-leb r.lo k i.0, le-leb k r.hi i.1) refl

in-hit : (r : Range) (k : ℕ) → 0 < hit r k → IsIn k r
in-hit r k h = elim (leb_tells r.lo k) [
  | inl a ↦ elim (leb_tells k r.hi) [
    | inl b ↦ (a.1, b.1)
    | inr b ↦ absurd (let e : hit r k ≡ 0 = rw (a.0, b.0) refl in omega arith)
  ]
  | inr a ↦ absurd (let e : hit r k ≡ 0 = rw a.0 refl in omega arith)
]

hits-le : (p : List ℕ) (b : List Stay) → hits p b ≤ length b
hits-le p [] = omega arith
hits-le p (s ∷ b) = omega (arith, hits-le p b, hit-le s.range (place p s.train))

hits-all : (p : List ℕ) (b : List Stay) → InStays p b → hits p b ≡ length b
hits-all p [] h = refl
hits-all p (s ∷ b) h = omega (arith, hits-all p b h.1, hit-in s.range (place p s.train) h.0)

all-hits : (p : List ℕ) (b : List Stay) → hits p b ≡ length b → InStays p b
all-hits p [] h = tt
all-hits p (s ∷ b) h =
    let u : hits p b ≤ length b = hits-le p b in
    let v : hit s.range (place p s.train) ≤ 1 = hit-le s.range (place p s.train) in
    (in-hit s.range (place p s.train) (omega arith), all-hits p b (omega arith))

pos-lt : (a b : ℕ) → pos a <ℤ pos b → a < b
pos-lt a b h = ltb_yes h.lt

lt-pos : (a b : ℕ) → a < b → pos a <ℤ pos b
lt-pos a b h = record { lt = yes_ltb h }

pub over_in : (M : List Mission) (all : List (List Stay)) (s : ℕ) (b : List Stay) (p : List ℕ)
    → slice_get all s ≡ Some b → AreStays (length M) b → AreInRange M p → IsOver (marked M all) p s → InStays p b
over_in M all s b p at are range over =
    let e : count (marked M all) s p ≡ pos (hits p b) = count-marked M all s b p at are range in
    let f : limit (marked M all) s ≡ length b - 1 = ap (λ (c : Section). c.limit) (section-at M all s b at) in
    let g : pos (limit (marked M all) s) <ℤ pos (hits p b) = subst (λ n. pos (limit (marked M all) s) <ℤ n) e over.1 in
    let h : limit (marked M all) s < hits p b = pos-lt _ _ g in
    let u : hits p b ≤ length b = hits-le p b in
    all-hits p b (omega arith)

pub in_over : (M : List Mission) (all : List (List Stay)) (s : ℕ) (b : List Stay) (p : List ℕ)
    → slice_get all s ≡ Some b → 0 < length b → AreStays (length M) b → AreInRange M p → InStays p b → IsOver (marked M all) p s
in_over M all s b p at some are range h =
    let e : count (marked M all) s p ≡ pos (hits p b) = count-marked M all s b p at are range in
    let f : limit (marked M all) s ≡ length b - 1 = ap (λ (c : Section). c.limit) (section-at M all s b at) in
    let u : hits p b ≡ length b = hits-all p b h in
    let n : length (map (forbidding M) all) ≡ length all = length-map all (forbidding M) in
    let l : s < length all = slice_get_within all s b at in
    (omega arith, subst (λ n. pos (limit (marked M all) s) <ℤ n) (sym e) (lt-pos _ _ (omega arith)))
