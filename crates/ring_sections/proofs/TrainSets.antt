-- Sets of trains as bits, and what of some pairs is outside.
use Rattle.std.proofs.Common.{◌≡◌, ◌⊎◌, ℕ, zero, suc, ◌<◌, ◌≤◌, ◌^◌, List, [], ◌∷◌, length, arith, ap, ◌∙◌, inl, inr}
use Rattle.std.specs.Int.{bit_at}
use Rattle.std.specs.Int.Bits.{bit_and, bit_or}
use Rattle.std.proofs.lemmas.Bool.Decides.{eqb_tells, leb_tells, nat_tests}
use Rattle.std.proofs.lemmas.Nat.Bits.{bit_at-zero, bit_at-lt, bit_at-pow_same, bit_at-pow_other, bit_at_or, bit_at_and, bit_at_above}
use Rattle.std.proofs.lemmas.List.Elements.{All-nil, All-cons}
use Rattle.ring_sections.specs.declared.train_set.TrainSet.{TrainSet}
use Rattle.ring_sections.specs.Ring.{Pair, pair_at}
use Rattle.ring_sections.specs.Leading.{HasTrain, Avoids, count_outside}

-- the set with a train more
abbrev pub with_train : TrainSet → ℕ → TrainSet
with_train s i = record { bits = bit_or s.bits (2 ^ i) }

pub has_new : (s : TrainSet) (i : ℕ) → HasTrain (with_train s i) i
has_new s i = let e = bit_at_or s.bits (2 ^ i) i in let p = bit_at-pow_same i in let l = bit_at-lt s.bits i in omega arith

pub has_old : (s : TrainSet) (i j : ℕ) → HasTrain s j → HasTrain (with_train s i) j
has_old s i j h = let e = bit_at_or s.bits (2 ^ i) j in let l = bit_at-lt (2 ^ i) j in omega arith

pub has_only : (s : TrainSet) (i j : ℕ) → HasTrain (with_train s i) j → HasTrain s j ⊎ (j ≡ i)
has_only s i j h = elim (eqb_tells j i) [
  | inl same ↦ inr same.1
  | inr other ↦ inl (let e = bit_at_or s.bits (2 ^ i) j in let p = bit_at-pow_other i j other.1 in omega arith)
]

pub none_has : (s : TrainSet) (i : ℕ) → s.bits ≡ 0 → HasTrain s i → ⊥
none_has s i none h = let z = bit_at-zero i in let e : bit_at s.bits i ≡ bit_at 0 i = ap (λ b. bit_at b i) none in omega arith

-- no train is in both
pub has_apart : (s t : TrainSet) (i : ℕ) → bit_and s.bits t.bits ≡ 0 → HasTrain s i → HasTrain t i → ⊥
has_apart s t i none h k =
    let e = bit_at_and s.bits t.bits i in
    let z : bit_at (bit_and s.bits t.bits) i ≡ 0 = ap (λ b. bit_at b i) none ∙ bit_at-zero i in
    omega arith

pub has_below : (s : TrainSet) (n i : ℕ) → s.bits < 2 ^ n → HasTrain s i → i < n
has_below s n i small h = elim (leb_tells n i) [
  | inl above ↦ absurd (let z = bit_at_above s.bits n i small above.1 in omega arith)
  | inr below ↦ below.1
]

-- ---- of a list of pairs

pub count_all : (s : TrainSet) (later : List Pair) → count_outside s later ≤ length later
count_all s [] = omega arith
count_all s (w ∷ later) = grind (arith, nat_tests, count_all s later)

-- where none is outside
pub count_none : (s : TrainSet) (later : List Pair) (k : ℕ) → count_outside s later ≤ 0 → k < length later → HasTrain s (pair_at later k).0
count_none s [] k none l = absurd (omega arith)
count_none s (w ∷ later) zero none l = grind (arith, nat_tests)
count_none s (w ∷ later) (suc k) none l = grind (arith, nat_tests, count_none s later k)

-- a set with a train more has no more outside
count_more : (s : TrainSet) (i : ℕ) (later : List Pair) → count_outside (with_train s i) later ≤ count_outside s later
count_more s i [] = omega arith
count_more s i (w ∷ later) = grind (arith, nat_tests, has_old s i w.0, count_more s i later)

-- and fewer where the train was outside
pub count_fewer : (s : TrainSet) (later : List Pair) (k : ℕ) → k < length later → (HasTrain s (pair_at later k).0 → ⊥) → count_outside (with_train s (pair_at later k).0) later < count_outside s later
count_fewer s [] k l h = absurd (omega arith)
count_fewer s (w ∷ later) zero l h = grind (arith, nat_tests, has_new s w.0, count_more s w.0 later)
count_fewer s (w ∷ later) (suc k) l h = grind (arith, nat_tests, has_old s (pair_at later k).0 w.0, count_fewer s later k (omega arith) h)

-- All avoid the set, or one doesn't.
pub avoid_or_meet : (s : TrainSet) (later : List Pair) → Avoids s later ⊎ ((k : ℕ) × (k < length later) × HasTrain s (pair_at later k).0)
avoid_or_meet s [] = inl (All-nil (λ w. HasTrain s w.0 → ⊥))
avoid_or_meet s (w ∷ later) = elim (eqb_tells (bit_at s.bits w.0) 1) [
  | inl h ↦ inr (zero, omega arith, h.1)
  | inr h ↦ elim (avoid_or_meet s later) [
    | inl all ↦ inl (All-cons (λ v. HasTrain s v.0 → ⊥) w later h.1 all)
    | inr k ↦ inr (suc k.0, omega (arith, k.1), k.2)
  ]
]
