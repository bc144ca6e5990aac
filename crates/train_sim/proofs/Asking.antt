-- Who asks next, and how trains that ask in vain are put off until one moves.
use Rattle.std.proofs.Common.{◌≡◌, ℕ, zero, suc, ◌<◌, ◌≤◌, Option, Some, None, refl, ◌∙◌, ap, arith, inl, inr}
use Rattle.std.specs.Prelude.{Bool, Decides, nat_le}
use Rattle.std.specs.List.{list_all}
use Rattle.std.proofs.lemmas.Bool.{cases_eq, cases_lt}
use Rattle.rail_model.specs.Checks.{below}
use Rattle.rail_model.proofs.Agree.{Decides-all_below, Decides-leb}
use Rattle.rail_model.proofs.FirstPassing.{first_found, none_found}
use Rattle.train_sim.specs.Timed.{Clock, due_of, next_asker}

-- some number below n has the least value
some_least : (f : ℕ → ℕ) (n : ℕ) → 0 < n → (i : ℕ) × (i < n) × ((j : ℕ) → j < n → f i ≤ f j)
some_least f zero some = absurd (omega arith)
some_least f (suc zero) some = (0, omega arith, λ j lt. let same : j ≡ 0 = omega arith in let here : f j ≡ f 0 = ap f same in omega arith)
some_least f (suc (suc n)) some =
    let before = some_least f (suc n) (omega arith) in
    elim (cases_lt (f (suc n)) (f before.0)) [
      | inl less ↦ (
        suc n,
        omega arith,
        λ j lt. elim (cases_eq j (suc n)) [
          | inl same ↦ let here : f j ≡ f (suc n) = ap f same in omega arith
          | inr other ↦ omega (arith, before.2 j (omega arith), less)
        ],
      )
      | inr no_less ↦ (
        before.0,
        omega (arith, before.1),
        λ j lt. elim (cases_eq j (suc n)) [
          | inl same ↦ let here : f j ≡ f (suc n) = ap f same in omega (arith, no_less)
          | inr other ↦ before.2 j (omega arith)
        ],
      )
    ]

-- Train i is the first of n with the least due tick.
pub record AsksNext (c : Clock) (n i : ℕ) : Type 0 where
  pub train : i < n
  pub least : (j : ℕ) → j < n → due_of c i ≤ due_of c j
  pub first : (j : ℕ) → j < i → due_of c i < due_of c j

abbrev HasLeast : Clock → ℕ → ℕ → Type 0
HasLeast c n i = (j : ℕ) → j < n → due_of c i ≤ due_of c j

abbrev has_least : Clock → ℕ → ℕ → Bool
has_least c n i = list_all (λ j. nat_le (due_of c i) (due_of c j)) (below n)

Decides-has_least : (c : Clock) (n i : ℕ) → Decides (has_least c n i) (HasLeast c n i)
Decides-has_least c n i = Decides-all_below (λ j. nat_le (due_of c i) (due_of c j)) (λ j. due_of c i ≤ due_of c j) (λ j. Decides-leb (due_of c i) (due_of c j)) n

pub next_found : (c : Clock) (n i : ℕ) → next_asker c n ≡ Some i → AsksNext c n i
next_found c n i found =
    let is = first_found (has_least c n) (HasLeast c n) (Decides-has_least c n) n i found in
    let least : HasLeast c n i = is.0.1 in
    record {
      train = is.0.0;
      least = least;
      first = λ j lt. elim (cases_lt (due_of c i) (due_of c j)) [
        | inl less ↦ less
        | inr no_less ↦ absurd (is.1 j lt (omega (arith, is.0.0), λ k lt_k. omega (arith, least k lt_k, no_less)))
      ];
    }

some_next : (c : Clock) (n : ℕ) (found : Option ℕ) → next_asker c n ≡ found → 0 < n → (i : ℕ) × (found ≡ Some i)
some_next c n (Some i) is some = (i, refl)
some_next c n None is some =
    let w = some_least (due_of c) n some in
    absurd (none_found (has_least c n) (HasLeast c n) (Decides-has_least c n) n is w.0 (w.1, w.2))

-- some train asks next
pub some_asker : (c : Clock) (n : ℕ) → 0 < n → (i : ℕ) × (next_asker c n ≡ Some i) × AsksNext c n i
some_asker c n some =
    let w = some_next c n (next_asker c n) refl some in
    (w.0, w.1, next_found c n w.0 w.1)

one_asks : (c : Clock) (n i j : ℕ) → AsksNext c n i → AsksNext c n j → i ≡ j
one_asks c n i j a b = elim (cases_lt i j) [
  | inl before ↦ absurd (omega (arith, b.first i before, a.least j b.train))
  | inr behind ↦ elim (cases_eq i j) [
    | inl same ↦ same
    | inr other ↦ absurd (let lt : j < i = omega arith in omega (arith, a.first j lt, b.least i a.train))
  ]
]

-- a train that asks next is the one that is found
pub asks_next : (c : Clock) (n i : ℕ) → AsksNext c n i → next_asker c n ≡ Some i
asks_next c n i a =
    let w = some_asker c n (omega (arith, a.train)) in
    w.1 ∙ ap Some (one_asks c n w.0 i w.2 a)
