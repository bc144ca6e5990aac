-- Trains that are chosen are among all, and the list of what trains are told grows.
use Rattle.std.proofs.Common.{◌≡◌, ℕ, zero, suc, ◌+◌, ◌-◌, ◌<◌, List, [], ◌∷◌, ◌++◌, length, get_or, Bool, true, false}
use Rattle.std.proofs.Common.{subst, sym, ap, ◌∙◌, arith, inl, inr, Vec, Global}
use Rattle.std.specs.Prelude.{All, IfOk, Result, Ok, Err, if◌then◌else◌}
use Rattle.std.proofs.lemmas.Bool.{cases_lt}
use Rattle.std.proofs.lemmas.List.{get_or_append_left, get_or-append_right}
use Rattle.std.proofs.lemmas.List.Elements.{All-append, All-cons, All-nil, All-weaker}
use Rattle.live_yard.specs.declared.told.Told.{Told}
use Rattle.live_yard.specs.declared.told.Told.TheVariants.{May}
use Rattle.live_answers.specs.Causes.{chosen}
use Rattle.live_answers.specs.Seen.{Seen, IsTold, told_at}

one_below : (n : ℕ) (b : Bool) → All (λ j. j < suc n) (if b then n ∷ [] else [])
one_below n true = All-cons (λ j. j < suc n) n [] (omega arith) (All-nil (λ j. j < suc n))
one_below n false = All-nil (λ j. j < suc n)

pub chosen_below : (f : ℕ → Bool) (n : ℕ) → All (λ j. j < n) (chosen f n)
chosen_below f zero = All-nil (λ j. j < 0)
chosen_below f (suc n) =
    All-append (λ j. j < suc n) (chosen f n) _
    (All-weaker (λ j. j < n) (λ j. j < suc n) (λ j lower. omega arith) (chosen f n) (chosen_below f n))
    (one_below n (f n))

-- one more train is told
pub told_more : (v : Seen) (tolds longer : List Told) (n : ℕ) (told : Told) → length tolds ≡ n
    → longer ≡ tolds ++ told ∷ [] → IsTold v n told
    → ((i : ℕ) → i < n → IsTold v i (told_at tolds i)) → (i : ℕ) → i < n + 1 → IsTold v i (told_at longer i)
told_more v tolds longer n told size grows last before i within = elim (cases_lt i n) [
  | inl earlier ↦
      let same : told_at longer i ≡ told_at tolds i =
      ap (λ (l : List Told). told_at l i) grows
      ∙ get_or_append_left tolds (told ∷ []) May i (omega (arith, size, earlier)) in
      subst (λ (t : Told). IsTold v i t) (sym same) (before i earlier)
  | inr here ↦
      let at : n ≡ i = omega (arith, here, within) in
      let same : told_at longer n ≡ told =
      ap (λ (l : List Told). told_at l n) grows
      ∙ get_or-append_right tolds (told ∷ []) n n May size (omega arith)
      ∙ ap (λ (k : ℕ). get_or (told ∷ []) k May) (let none : n - n ≡ 0 = omega arith in none) in
      subst (λ (k : ℕ). IsTold v k (told_at longer k)) at (subst (λ (t : Told). IsTold v n t) (sym same) last)
]

pub all_below : {E : Type 0} (f : ℕ → Bool) (n : ℕ) (r : Result (Vec ℕ Global) E)
    → IfOk r (λ by. by.items ≡ chosen f n) → IfOk r (λ by. All (λ j. j < n) by.items)
all_below f n (Ok by) is = subst (λ (l : List ℕ). All (λ j. j < n) l) (sym is) (chosen_below f n)
all_below f n (Err e) is = record {}
