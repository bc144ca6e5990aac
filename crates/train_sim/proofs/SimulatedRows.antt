-- Worked rows: two trains, the first of which asks once in vain, as a simulation from its definitions.
use Rattle.std.proofs.Common.{◌≡◌, ◌≢◌, ℕ, zero, suc, ◌≤◌, ◌<◌, List, [], ◌∷◌, false, Some, refl, lit<, lit≤, arith, inl, inr}
use Rattle.rail_model.specs.declared.types.Ask.TheVariants.{Yes, Occupied}
use Rattle.rail_model.specs.declared.types.Line.TheVariants.{Move as MoveLine, Table as TableLine}
use Rattle.rail_model.specs.declared.types.Reply.TheVariants.{Driver, Control}
use Rattle.rail_model.specs.declared.types.Tried.TheVariants.{Exchanged}
use Rattle.rail_model.specs.Checks.{same_point}
use Rattle.rail_model.specs.Exchange.{Agrees}
use Rattle.rail_model.specs.Move.{Move, advance}
use Rattle.rail_model.specs.State.{Legal, Arrived}
use Rattle.rail_model.specs.Table.{Table, last, point, place}
use Rattle.rail_model.specs.Yard.{Offer, opening}
use Rattle.rail_model.proofs.Agree.{Decides-same_point}
use Rattle.train_sim.specs.Report.{Simulates}
use Rattle.train_sim.specs.Timed.{Stamped, IsNext, IsTimed, starting}
use Rattle.train_sim.proofs.Played.{played}

-- T0 wants the point that T1 leaves
abbrev pub table : Table
table = record {
  missions = (record { points = 1 ∷ 0 ∷ []; exits = false }) ∷ (record { points = 0 ∷ 2 ∷ 3 ∷ []; exits = false }) ∷ [];
  sections = [];
  connections = [];
}

abbrev pub offers : List Offer
offers = (record { table = table; after = 0 }) ∷ []

-- T0's step takes 5 ticks, T1's 4 and 2
abbrev pub times : List (List (List ℕ))
times = ((5 ∷ []) ∷ (4 ∷ 2 ∷ []) ∷ []) ∷ []

abbrev pub both : ℕ → ℕ → List ℕ
both a b = a ∷ b ∷ []

legal : (a b : ℕ) → a ≤ 1 → b ≤ 2 → same_point (point table 0 a) (point table 1 b) ≡ false → Legal table (both a b)
legal a b low high apart = record { one_each = refl; in_range = in_range; apart = two; within = λ s lt. absurd (omega (arith, lt)) }
  where
    in_range : (i : ℕ) → i < 2 → place (both a b) i ≤ last table i
    in_range zero lt = low
    in_range (suc zero) lt = high
    in_range (suc (suc i)) lt = absurd (omega (arith, lt))

    two : (i j q : ℕ) → i < 2 → j < 2 → i ≢ j → point table i (place (both a b) i) ≡ Some q → point table j (place (both a b) j) ≡ Some q → ⊥
    two zero zero q i_in j_in other here there = other refl
    two zero (suc zero) q i_in j_in other here there = let same = (Decides-same_point _ _).1 (q, here, there) in cc
    two (suc zero) zero q i_in j_in other here there = let same = (Decides-same_point _ _).1 (q, there, here) in cc
    two (suc zero) (suc zero) q i_in j_in other here there = other refl
    two (suc (suc i)) j q i_in j_in other here there = omega (arith, i_in)
    two i (suc (suc j)) q i_in j_in other here there = omega (arith, j_in)

pub moves : (p : List ℕ) (i : ℕ) → i < 2 → Legal table p → Legal table (advance p i) → Move table p i (advance p i)
moves p i i_in before after = record { before = before; train = i_in; step = refl; after = after; free = λ c held. let none = held.1 in cc }

pub at_0_0 : Legal table (both 0 0)
at_0_0 = legal 0 0 (lit≤ tt) (lit≤ tt) refl

pub at_0_1 : Legal table (both 0 1)
at_0_1 = legal 0 1 (lit≤ tt) (lit≤ tt) refl

pub at_1_1 : Legal table (both 1 1)
at_1_1 = legal 1 1 (lit≤ tt) (lit≤ tt) refl

pub at_0_2 : Legal table (both 0 2)
at_0_2 = legal 0 2 (lit≤ tt) (lit≤ tt) refl

at_1_2 : Legal table (both 1 2)
at_1_2 = legal 1 2 (lit≤ tt) (lit≤ tt) refl

under_way : (a b : ℕ) → b < 2 → Arrived table (both a b) → ⊥
under_way a b less arrived = let end : b ≡ 2 = arrived 1 (lit< tt) in omega arith

abbrev entries : List Stamped
entries =
    (record { tick = 0; entry = record { who = 0; reply = Driver (Occupied 1) } })
    ∷ (record { tick = 0; entry = record { who = 1; reply = Driver Yes } })
    ∷ (record { tick = 1; entry = record { who = 0; reply = Driver Yes } })
    ∷ (record { tick = 4; entry = record { who = 1; reply = Driver Yes } }) ∷ []

entries_played : played 40 offers times (starting (opening (both 0 0)) 2) ≡ entries
entries_played = refl

timed : IsTimed offers times (starting (opening (both 0 0)) 2) entries
timed = (
  (λ due. omega (arith, due.0), under_way 0 0 (lit< tt), refl, refl, (lit< tt, (lit< tt, (lit< tt, λ e. cc, (0, refl, refl))))),
  (
    (λ due. omega (arith, due.0), under_way 0 0 (lit< tt), refl, refl, (lit< tt, moves (both 0 0) 1 (lit< tt) at_0_0 at_0_1)),
    (
      (λ due. omega (arith, due.0), under_way 0 1 (lit< tt), refl, refl, (lit< tt, moves (both 0 1) 0 (lit< tt) at_0_1 at_1_1)),
      (
        (λ due. omega (arith, due.0), under_way 1 1 (lit< tt), refl, refl, (lit< tt, moves (both 1 1) 1 (lit< tt) at_1_1 at_1_2)),
        (arrived, λ more. omega (arith, more)),
      ),
    ),
  ),
)
  where
    arrived : Arrived table (both 1 2)
    arrived zero lt = refl
    arrived (suc zero) lt = refl
    arrived (suc (suc i)) lt = absurd (omega (arith, lt))

-- after a line that was there before
simulated : Simulates offers times (opening (both 0 0)) (TableLine 7 ∷ []) (TableLine 7 ∷ MoveLine 1 0 (Some 2) ∷ MoveLine 0 1 (Some 0) ∷ MoveLine 1 2 (Some 3) ∷ [])
    (0 ∷ 0 ∷ 1 ∷ 4 ∷ []) 4 (record { positions = both 1 2; table = 0; tried = 0; moves = 3 })
simulated = record { entries = entries; timed = timed; lines_are = refl; ticks_are = refl; last_is = refl; end_is = refl }

-- one train with these points
abbrev alone : List ℕ → Table
alone points = record { missions = (record { points = points; exits = false }) ∷ []; sections = []; connections = [] }

abbrev onward : List Offer
onward = (record { table = alone (0 ∷ 1 ∷ 2 ∷ []); after = 0 }) ∷ (record { table = alone (0 ∷ 1 ∷ 2 ∷ 3 ∷ []); after = 99 }) ∷ []

-- it has arrived by its ask at tick 1, so a longer table is exchanged at that tick, and not when it asks next
exchange_next : IsNext onward (record { yard = record { positions = 2 ∷ []; table = 0; tried = 0; moves = 2 }; due = 6 ∷ []; now = 1 })
    (record { tick = 1; entry = record { who = 32; reply = Control Exchanged } })
exchange_next = ((lit< tt, inr at_2), refl, (refl, lit< tt, ((lit< tt, inr at_2), (agrees, λ s over. omega (arith, over.0)))))
  where
    at_2 : Arrived (alone (0 ∷ 1 ∷ 2 ∷ [])) (2 ∷ [])
    at_2 zero lt = refl
    at_2 (suc i) lt = absurd (omega (arith, lt))

    agrees : Agrees (alone (0 ∷ 1 ∷ 2 ∷ [])) (alone (0 ∷ 1 ∷ 2 ∷ 3 ∷ [])) (2 ∷ [])
    agrees zero k (lt, passed, inl short) = omega (arith, passed, short)
    agrees zero zero (lt, passed, inr ne) = ne refl
    agrees zero (suc zero) (lt, passed, inr ne) = ne refl
    agrees zero (suc (suc zero)) (lt, passed, inr ne) = ne refl
    agrees zero (suc (suc (suc k))) (lt, passed, inr ne) = omega (arith, passed)
    agrees (suc i) k (lt, passed, other) = omega (arith, lt)
