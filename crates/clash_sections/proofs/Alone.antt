-- A track is used by one train at most, so tracks let in no more trains than there are of them.
use Rattle.std.proofs.Common.{◌≡◌, ◌≢◌, ℕ, suc, ◌+◌, ◌<◌, ◌≤◌, Bool, true, false, cond, List, [], ◌∷◌, length, Option, Some, None, count_by, sum_by, refl, arith, slice_index_or}
use Rattle.std.proofs.lemmas.List.Sums.{sum_by-cons, sum_by-le-sum_by}
use Rattle.clash_sections.specs.Stands.{stand}
use Rattle.clash_sections.specs.Tracks.{is_on}

-- whether the train, which may be on no stand, is on the track
abbrev pub train_on : List Bool → Option ℕ → Bool
train_on K None = false
train_on K (Some a) = is_on K a

-- No two trains of the state are on the track.
abbrev pub IsAlone : List (Option ℕ) → List Bool → Type 0
IsAlone p K = (i j : ℕ) → i ≢ j → train_on K (stand p i) ≡ true → train_on K (stand p j) ≡ true → ⊥

count-none : (K : List Bool) (p : List (Option ℕ)) → ((i : ℕ) → train_on K (stand p i) ≡ true → ⊥) → count_by (train_on K) p ≡ 0
count-none K [] none = refl
count-none K (u ∷ p) none =
    let rest = count-none K p (λ i. none (suc i)) in
    let whole = sum_by-cons (λ v. cond (train_on K v) 1 0) u p in
    (elim (train_on K u) as (λ b. (b ≡ true → ⊥) → count_by (train_on K) (u ∷ p) ≡ cond b 1 0 + count_by (train_on K) p
    → count_by (train_on K) (u ∷ p) ≡ 0) [
      | true ↦ λ no e. absurd (no refl)
      | false ↦ λ no e. omega arith
    ]) (none 0) whole

pub count-alone : (K : List Bool) (p : List (Option ℕ)) → IsAlone p K → count_by (train_on K) p ≤ 1
count-alone K [] alone = omega arith
count-alone K (u ∷ p) alone =
    let rest = count-alone K p (λ i j d. alone (suc i) (suc j) (λ e. d (omega arith))) in
    let whole = sum_by-cons (λ v. cond (train_on K v) 1 0) u p in
    let none : train_on K u ≡ true → count_by (train_on K) p ≡ 0 =
    λ here. count-none K p (λ i there. alone 0 (suc i) (λ e. omega arith) here there) in
    (elim (train_on K u) as (λ b. (b ≡ true → count_by (train_on K) p ≡ 0) →
    count_by (train_on K) (u ∷ p) ≡ cond b 1 0 + count_by (train_on K) p
    → count_by (train_on K) (u ∷ p) ≤ 1) [
      | true ↦ λ no e. let z = no refl in omega arith
      | false ↦ λ no e. omega arith
    ]) none whole

sum-plus : (f g : Option ℕ → ℕ) (p : List (Option ℕ)) → sum_by (λ u. f u + g u) p ≡ sum_by f p + sum_by g p
sum-plus f g [] = refl
sum-plus f g (u ∷ p) =
    omega (arith, sum-plus f g p, sum_by-cons f u p, sum_by-cons g u p, sum_by-cons (λ v. f v + g v) u p)

sum-none : (p : List (Option ℕ)) → sum_by (λ u. 0) p ≡ 0
sum-none [] = refl
sum-none (u ∷ p) = omega (arith, sum-none p, sum_by-cons (λ (v : Option ℕ). 0) u p)

-- on how many of the tracks the train is
abbrev pub train_count : List (List Bool) → Option ℕ → ℕ
train_count Ks u = count_by (λ K. train_on K u) Ks

-- all trains together are on at most as many tracks as there are
pub sum-tracks : (p : List (Option ℕ)) (Ks : List (List Bool))
    → ((k : ℕ) (d : List Bool) → k < length Ks → IsAlone p (slice_index_or Ks k d))
    → sum_by (train_count Ks) p ≤ length Ks
sum-tracks p [] alone = omega (arith, sum-none p)
sum-tracks p (K ∷ Ks) alone =
    let rest = sum-tracks p Ks (λ k d l. alone (suc k) d (omega arith)) in
    let here : count_by (train_on K) p ≤ 1 = count-alone K p (alone 0 K (omega arith)) in
    let split = sum-plus (λ u. cond (train_on K u) 1 0) (train_count Ks) p in
    let less : sum_by (train_count (K ∷ Ks)) p ≤ sum_by (λ u. cond (train_on K u) 1 0 + train_count Ks u) p =
    sum_by-le-sum_by (train_count (K ∷ Ks)) (λ u. cond (train_on K u) 1 0 + train_count Ks u) p
    (λ u. omega (arith, sum_by-cons (λ (J : List Bool). cond (train_on J u) 1 0) K Ks)) in
    omega arith
