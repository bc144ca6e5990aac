-- The elements of lists: of mapped, filtered and joined ones, of numbers, and what is found.
use Rattle.std.proofs.Common.{◌≡◌, ◌⊎◌, ℕ, zero, suc, ◌+◌, ◌<◌, ◌≤◌, Bool, true, false, List, [], ◌∷◌, ◌++◌, map, length, Some, None, cond, refl, arith, inl, inr, subst}
use Rattle.std.specs.Prelude.{filter, find, flat_map, slice_index_or}
use Rattle.std.specs.List.{range_with_len}
use Rattle.std.proofs.lemmas.Option.{none-some, same_Some}
use Rattle.rail_model.specs.Checks.{below}
use Rattle.rail_model.proofs.Found.{Among, Among-range}

pub map-among : {X Y : Type 0} (f : X → Y) (xs : List X) (y : Y) → Among (map f xs) y → (x : X) × Among xs x × (f x ≡ y)
map-among f [] y a = absurd a
map-among f (x ∷ xs) y a = elim a [ inl e ↦ (x, inl refl, e) | inr later ↦ let r = map-among f xs y later in (r.0, inr r.1, r.2) ]

pub filter-among : {X : Type 0} (q : X → Bool) (xs : List X) (x : X) → Among (filter q xs) x → Among xs x × (q x ≡ true)
filter-among q [] x a = absurd a
filter-among q (y ∷ ys) x a =
    (elim (q y) as (λ b. q y ≡ b → Among (cond b (y ∷ filter q ys) (filter q ys)) x → Among (y ∷ ys) x × (q x ≡ true)) [
      | true ↦ λ e c. elim c [ inl s ↦ (inl s, subst (λ v. q v ≡ true) s e) | inr later ↦ let r = filter-among q ys x later in (inr r.0, r.1) ]
      | false ↦ λ e c. let r = filter-among q ys x c in (inr r.0, r.1)
    ]) refl a

pub among-filter : {X : Type 0} (q : X → Bool) (xs : List X) (x : X) → Among xs x → q x ≡ true → Among (filter q xs) x
among-filter q [] x a h = absurd a
among-filter q (y ∷ ys) x a h =
    (elim (q y) as (λ b. q y ≡ b → Among (cond b (y ∷ filter q ys) (filter q ys)) x) [
      | true ↦ λ e. elim a [ inl s ↦ inl s | inr later ↦ inr (among-filter q ys x later h) ]
      | false ↦ λ e. elim a [ inl s ↦ absurd (let t : q x ≡ false = subst (λ v. q v ≡ false) s e in cc) | inr later ↦ among-filter q ys x later h ]
    ]) refl

pub split-among : {X : Type 0} (xs ys : List X) (x : X) → Among (xs ++ ys) x → Among xs x ⊎ Among ys x
split-among [] ys x a = inr a
split-among (z ∷ zs) ys x a = elim a [
  | inl e ↦ inl (inl e)
  | inr later ↦ elim (split-among zs ys x later) [ inl l ↦ inl (inr l) | inr r ↦ inr r ]
]

pub flat-among : {X Y : Type 0} (f : X → List Y) (xs : List X) (y : Y) → Among (flat_map f xs) y → (x : X) × Among xs x × Among (f x) y
flat-among f [] y a = absurd a
flat-among f (x ∷ xs) y a = elim (split-among (f x) (flat_map f xs) y a) [
  | inl l ↦ (x, inl refl, l)
  | inr r ↦ let u = flat-among f xs y r in (u.0, inr u.1, u.2)
]

pub among-at : {X : Type 0} (xs : List X) (k : ℕ) (d : X) → k < length xs → Among xs (slice_index_or xs k d)
among-at [] k d l = absurd (omega arith)
among-at (x ∷ xs) zero d l = inl refl
among-at (x ∷ xs) (suc k) d l = inr (among-at xs k d (omega arith))

pub among-length : {X : Type 0} (xs : List X) (x : X) → Among xs x → 0 < length xs
among-length [] x a = absurd a
among-length (y ∷ ys) x a = omega arith

-- ---- numbers

pub range-among : (n a i : ℕ) → Among (range_with_len a n) i → (a ≤ i) × (i < a + n)
range-among zero a i h = absurd h
range-among (suc n) a i h = elim h [
  | inl e ↦ (omega (arith, e), omega (arith, e))
  | inr later ↦ let r = range-among n (a + 1) i later in (omega (arith, r.0), omega (arith, r.1))
]

pub below-among : (n i : ℕ) → Among (below n) i → i < n
below-among n i h = let r = range-among n 0 i h in omega (arith, r.1)

pub among-below : (n i : ℕ) → i < n → Among (below n) i
among-below n i l = Among-range n 0 i (omega arith) (omega arith)

-- ---- what is found

pub find-among : {X : Type 0} (q : X → Bool) (xs : List X) (x : X) → find q xs ≡ Some x → Among xs x
find-among q [] x h = absurd (none-some x h)
find-among q (y ∷ ys) x h =
    (elim (q y) as (λ b. cond b (Some y) (find q ys) ≡ Some x → Among (y ∷ ys) x) [
      | true ↦ λ e. inl (same_Some y x e)
      | false ↦ λ e. inr (find-among q ys x e)
    ]) h

-- where no element passes, none is found
pub none-found : {X : Type 0} (q : X → Bool) (xs : List X) → ((x : X) → Among xs x → q x ≡ false) → find q xs ≡ None
none-found q [] h = refl
none-found q (y ∷ ys) h = rw (h y (inl refl)) (none-found q ys (λ x a. h x (inr a)))
