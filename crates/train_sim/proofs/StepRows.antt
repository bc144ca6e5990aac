-- Worked rows: travel times, who moves next, and the ticks after a move.
use Rattle.std.proofs.Common.{◌≡◌, ◌⊎◌, ℕ, zero, suc, ◌<◌, ◌≤◌, List, [], ◌∷◌, None, refl, lit<, lit≤, arith, inl, inr}
use Rattle.std.specs.Prelude.{length, max, slice_index, slice_index_or}
use Rattle.rail_model.specs.Move.{Move, advance}
use Rattle.rail_model.specs.Table.{trains, last}
use Rattle.rail_model.specs.Times.{AreTimes, time}
use Rattle.rail_model.specs.Yard.{offer}
use Rattle.train_sim.specs.Report.{HaveTimes, TakeAtMost, IsSoon}
use Rattle.train_sim.specs.Steps.{MovesNext, MovesFirst, PutsOff, Grants, not_before}
use Rattle.train_sim.proofs.SimulatedRows.{table, offers, times, both, moves, at_0_0, at_0_1, at_0_2, at_1_1}

abbrev of_table : List (List ℕ)
of_table = (5 ∷ []) ∷ (4 ∷ 2 ∷ []) ∷ []

are_times : AreTimes table of_table
are_times = record { one_each = refl; per_step = per_step; not_below = not_below; not_above = not_above }
  where
    per_step : (i : ℕ) → i < 2 → length (slice_index_or of_table i []) ≡ last table i
    per_step zero lt = refl
    per_step (suc zero) lt = refl
    per_step (suc (suc i)) lt = absurd (omega (arith, lt))

    not_below : (i k : ℕ) → i < 2 → k < last table i → 1 ≤ slice_index_or (slice_index_or of_table i []) k 1
    not_below zero zero lt step = lit≤ tt
    not_below zero (suc k) lt step = absurd (omega (arith, step))
    not_below (suc zero) zero lt step = lit≤ tt
    not_below (suc zero) (suc zero) lt step = lit≤ tt
    not_below (suc zero) (suc (suc k)) lt step = absurd (omega (arith, step))
    not_below (suc (suc i)) k lt step = absurd (omega (arith, lt))

    not_above : (i k : ℕ) → i < 2 → k < last table i → slice_index_or (slice_index_or of_table i []) k 1 ≤ 1000
    not_above zero zero lt step = lit≤ tt
    not_above zero (suc k) lt step = absurd (omega (arith, step))
    not_above (suc zero) zero lt step = lit≤ tt
    not_above (suc zero) (suc zero) lt step = lit≤ tt
    not_above (suc zero) (suc (suc k)) lt step = absurd (omega (arith, step))
    not_above (suc (suc i)) k lt step = absurd (omega (arith, lt))

have_times : HaveTimes offers times
have_times = record { one_each = refl; each = each }
  where
    each : (t : ℕ) → t < 1 → AreTimes (offer offers t).table (slice_index_or times t [])
    each zero lt = are_times
    each (suc t) lt = absurd (omega (arith, lt))

at_most_5 : TakeAtMost offers times 5
at_most_5 = most
  where
    most : (t i k : ℕ) → t < 1 → i < trains (offer offers t).table → k < last (offer offers t).table i → time times t i k ≤ 5
    most zero zero zero t_in i_in step = lit≤ tt
    most zero zero (suc k) t_in i_in step = absurd (omega (arith, step))
    most zero (suc zero) zero t_in i_in step = lit≤ tt
    most zero (suc zero) (suc zero) t_in i_in step = lit≤ tt
    most zero (suc zero) (suc (suc k)) t_in i_in step = absurd (omega (arith, step))
    most zero (suc (suc i)) k t_in i_in step = absurd (omega (arith, i_in))
    most (suc t) i k t_in i_in step = absurd (omega (arith, t_in))

-- T0's step takes longer than 4 ticks
not_at_most_4 : TakeAtMost offers times 4 → ⊥
not_at_most_4 most = let five : 5 ≤ 4 = most 0 0 0 (lit< tt) (lit< tt) (lit< tt) in omega arith

-- three moves, the last at tick 10, but not at 11
soon : IsSoon offers times 3 10
soon w most = let five : 5 ≤ w = most 0 0 0 (lit< tt) (lit< tt) (lit< tt) in omega arith

not_soon : IsSoon offers times 3 11 → ⊥
not_soon soon = let ten : 11 ≤ 10 = soon 5 at_most_5 in omega arith

-- at the start T0 may not move, though it is due first
T1_moves : MovesNext table (both 0 0) (3 ∷ 8 ∷ []) 1
T1_moves = record { move = moves (both 0 0) 1 (lit< tt) at_0_0 at_0_1; first = first }
  where
    first : (j : ℕ) → Move table (both 0 0) j (advance (both 0 0) j) → (8 < slice_index (3 ∷ 8 ∷ []) j) ⊎ ((8 ≡ slice_index (3 ∷ 8 ∷ []) j) × (1 ≤ j))
    first zero move = absurd (move.after.apart 0 1 0 (lit< tt) (lit< tt) (λ e. cc) refl refl)
    first (suc zero) move = inr (refl, lit≤ tt)
    first (suc (suc j)) move = absurd (omega (arith, move.train))

no_lesser_moves : MovesFirst table (both 0 0) (3 ∷ 8 ∷ []) 1 None
no_lesser_moves zero lt move = move.after.apart 0 1 0 (lit< tt) (lit< tt) (λ e. cc) refl refl
no_lesser_moves (suc j) lt move = omega (arith, lt)

-- of two that may move and are due together it is the lesser
T0_moves : MovesNext table (both 0 1) (4 ∷ 4 ∷ []) 0
T0_moves = record { move = moves (both 0 1) 0 (lit< tt) at_0_1 at_1_1; first = first }
  where
    first : (j : ℕ) → Move table (both 0 1) j (advance (both 0 1) j) → (4 < slice_index (4 ∷ 4 ∷ []) j) ⊎ ((4 ≡ slice_index (4 ∷ 4 ∷ []) j) × (0 ≤ j))
    first zero move = inr (refl, lit≤ tt)
    first (suc zero) move = inr (refl, lit≤ tt)
    first (suc (suc j)) move = absurd (omega (arith, move.train))

-- else the one that is due first
T1_is_first : MovesNext table (both 0 1) (6 ∷ 4 ∷ []) 1
T1_is_first = record { move = moves (both 0 1) 1 (lit< tt) at_0_1 at_0_2; first = first }
  where
    first : (j : ℕ) → Move table (both 0 1) j (advance (both 0 1) j) → (4 < slice_index (6 ∷ 4 ∷ []) j) ⊎ ((4 ≡ slice_index (6 ∷ 4 ∷ []) j) × (1 ≤ j))
    first zero move = inl (lit< tt)
    first (suc zero) move = inr (refl, lit≤ tt)
    first (suc (suc j)) move = absurd (omega (arith, move.train))

-- train 1 asks at tick 5: train 0 has asked in vain up to that tick, train 2 before it, train 3 not yet
put_off : PutsOff (3 ∷ 5 ∷ 4 ∷ 9 ∷ []) 1 (6 ∷ 5 ∷ 5 ∷ 9 ∷ [])
put_off = (refl, each)
  where
    each : (j : ℕ) → j < 4 → slice_index (6 ∷ 5 ∷ 5 ∷ 9 ∷ []) j ≡ max (slice_index (3 ∷ 5 ∷ 4 ∷ 9 ∷ []) j) (not_before 1 5 j)
    each zero lt = refl
    each (suc zero) lt = refl
    each (suc (suc zero)) lt = refl
    each (suc (suc (suc zero))) lt = refl
    each (suc (suc (suc (suc j)))) lt = absurd (omega (arith, lt))

-- it moves then, by a step of 7 ticks
granted : Grants (record { due = 3 ∷ 5 ∷ 4 ∷ 9 ∷ []; last = 2; ticks = 2 ∷ [] }) 1 7 (record { due = 6 ∷ 12 ∷ 5 ∷ 9 ∷ []; last = 5; ticks = 2 ∷ 5 ∷ [] })
granted = record { later = 6 ∷ 5 ∷ 5 ∷ 9 ∷ []; puts_off = put_off; due = refl; last = refl; ticks = refl }
