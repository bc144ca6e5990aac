-- The train that moves next, train by train.
use Rattle.std.proofs.Common.{◌≡◌, ℕ, ◌+◌, ◌≤◌, List, Option, Some, None, ap, subst, arith, inl, inr}
use Rattle.std.specs.Prelude.{slice_index, MatchOption}
use Rattle.std.proofs.lemmas.Bool.{cases_eq, cases_lt}
use Rattle.rail_model.specs.Move.{Move, advance}
use Rattle.rail_model.specs.Table.{Table, trains}
use Rattle.train_sim.specs.Steps.{MovesFirst, MovesNext}

abbrev May : Table → List ℕ → ℕ → Type 0
May T p i = Move T p i (advance p i)

-- a train that is due no sooner changes nothing
pub first_sooner : (T : Table) (p due : List ℕ) (k i : ℕ) → slice_index due i ≤ slice_index due k → MovesFirst T p due k (Some i) → MovesFirst T p due (k + 1) (Some i)
first_sooner T p due k i no_sooner f = (
  omega (arith, f.0),
  f.1,
  λ j lt move. elim (cases_eq j k) [
    | inl same ↦
        let here : slice_index due j ≡ slice_index due k = ap (slice_index due) same in
        elim (cases_lt (slice_index due i) (slice_index due j)) [
          | inl less ↦ inl less
          | inr no_less ↦ inr (omega arith, omega (arith, f.0))
        ]
    | inr other ↦ f.2 j (omega arith) move
  ],
)

-- of all trains, the first mover moves next
moves_next : (T : Table) (p due : List ℕ) (found : Option ℕ) → MovesFirst T p due (trains T) found → MatchOption found ((i : ℕ) → May T p i → ⊥) (MovesNext T p due)
moves_next T p due None f = λ i move. f i move.train move
moves_next T p due (Some i) f = record { move = f.1; first = λ j move. f.2 j move.train move }

pub moves_next_at : (T U : Table) (p q due later : List ℕ) (found : Option ℕ) → T ≡ U → p ≡ q → due ≡ later → MovesFirst T p due (trains T) found
    → MatchOption found ((i : ℕ) → May U q i → ⊥) (MovesNext U q later)
moves_next_at T U p q due later found table place tick f =
    moves_next U q later found
    (subst (λ (d : List ℕ). MovesFirst U q d (trains U) found) tick
    (subst (λ (r : List ℕ). MovesFirst U r due (trains U) found) place
    (subst (λ (t : Table). MovesFirst t p due (trains t) found) table f)))
