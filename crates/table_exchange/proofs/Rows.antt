-- Worked rows: when tables are due and what they are told, on small tables.
use Rattle.std.proofs.Common.{◌≡◌, ◌≢◌, List, ◌∷◌, [], ℕ, zero, suc, ◌<◌, ◌≤◌, pos, negsuc, false, true, refl, lit<, lit≤, arith, inl, inr}
use Rattle.std.proofs.lemmas.Int.{ints}
use Rattle.rail_model.specs.Table.{Table, last, place}
use Rattle.rail_model.specs.State.{Legal, StandsAt}
use Rattle.rail_model.specs.Exchange.{DiffersAt, Agrees, Admits}
use Rattle.rail_model.specs.Checks.{admitted, is_due}
use Rattle.rail_model.specs.Yard.{Offer, opening}
use Rattle.rail_model.specs.declared.types.Tried.TheVariants.{Exchanged, Differs, Over}
use Rattle.table_exchange.specs.Tables.{Stands}

-- one train with these points and no sections
abbrev alone : List ℕ → Table
alone points = record { missions = record { points = points; exits = false } ∷ []; sections = []; connections = [] }

-- the same point twice: T0 [A, B, A, C] stands at its second A, and the new table has D in place of B
abbrev twice : Table
twice = alone (0 ∷ 1 ∷ 0 ∷ 2 ∷ [])

abbrev around : Table
around = alone (0 ∷ 3 ∷ 0 ∷ 2 ∷ [])

due_after_two : is_due twice (2 ∷ []) 2 2 ≡ true
due_after_two = refl

early_after_one : is_due twice (1 ∷ []) 1 2 ≡ false
early_after_one = refl

told_differs : admitted twice around (2 ∷ []) ≡ Differs 0 1
told_differs = refl

differs : Admits twice around (2 ∷ []) (Differs 0 1)
differs = (((1, here), λ j lt. absurd (omega (arith, lt))), (here, first))
  where
    here : DiffersAt twice around (2 ∷ []) 0 1
    here = (lit< tt, lit≤ tt, inr (λ e. cc))

    first : (k : ℕ) → k < 1 → DiffersAt twice around (2 ∷ []) 0 k → ⊥
    first zero lt other = elim (other.2) [ inl short ↦ omega (arith, short) | inr ne ↦ ne refl ]
    first (suc k) lt other = omega (arith, lt)

-- a table without a legal state after the corridor: its section is over its limit of 0 wherever T0 stands
abbrev corridor : Table
corridor = record {
  missions = record { points = 0 ∷ 1 ∷ 2 ∷ 3 ∷ []; exits = false } ∷ record { points = 4 ∷ 2 ∷ 1 ∷ 5 ∷ []; exits = false } ∷ [];
  sections = record { limit = 1; changes = (pos 0 ∷ pos 1 ∷ pos 0 ∷ negsuc 0 ∷ []) ∷ (pos 0 ∷ pos 1 ∷ pos 0 ∷ negsuc 0 ∷ []) ∷ [] } ∷ [];
  connections = [];
}

abbrev shut : Table
shut = record {
  missions = corridor.missions;
  sections = record { limit = 0; changes = (pos 1 ∷ pos 0 ∷ pos 0 ∷ pos 0 ∷ []) ∷ (pos 0 ∷ pos 0 ∷ pos 0 ∷ pos 0 ∷ []) ∷ [] } ∷ [];
  connections = [];
}

told_over : admitted corridor shut (1 ∷ 0 ∷ []) ≡ Over 0 1
told_over = refl

over : Admits corridor shut (1 ∷ 0 ∷ []) (Over 0 1)
over = (agrees, ((lit< tt, grind (arith, ints)), λ j lt. absurd (omega (arith, lt))), refl)
  where
    agrees : Agrees corridor shut (1 ∷ 0 ∷ [])
    agrees i k (lt, passed, inr ne) = ne refl
    agrees zero k (lt, passed, inl short) = omega (arith, passed, short)
    agrees (suc zero) k (lt, passed, inl short) = omega (arith, passed, short)
    agrees (suc (suc i)) k (lt, passed, inl short) = omega (arith, lt)

-- an arrived train goes on: T0 [A, B, C] has arrived, and the new table leads it to D
abbrev longer : Table
longer = alone (0 ∷ 1 ∷ 2 ∷ 3 ∷ [])

due_when_arrived : is_due (alone (0 ∷ 1 ∷ 2 ∷ [])) (2 ∷ []) 2 99 ≡ true
due_when_arrived = refl

told_exchanged : admitted (alone (0 ∷ 1 ∷ 2 ∷ [])) longer (2 ∷ []) ≡ Exchanged
told_exchanged = refl

-- T0 at A, under the first of two tables, of which the second has no answer yet
abbrev two_offers : List Offer
two_offers = record { table = alone (0 ∷ 1 ∷ 2 ∷ []); after = 0 } ∷ record { table = longer; after = 1 } ∷ []

legal_at : (points : List ℕ) (k : ℕ) → k ≤ last (alone points) 0 → Legal (alone points) (k ∷ [])
legal_at points k within = record { one_each = refl; in_range = in_range; apart = apart; within = λ s lt. absurd (omega (arith, lt)) }
  where
    in_range : (i : ℕ) → i < 1 → place (k ∷ []) i ≤ last (alone points) i
    in_range zero lt = within
    in_range (suc i) lt = absurd (omega (arith, lt))

    apart : (i j q : ℕ) → i < 1 → j < 1 → i ≢ j → StandsAt (alone points) (k ∷ []) i q → StandsAt (alone points) (k ∷ []) j q → ⊥
    apart zero zero q lt lt_j ne here there = ne refl
    apart zero (suc j) q lt lt_j ne here there = omega (arith, lt_j)
    apart (suc i) j q lt lt_j ne here there = omega (arith, lt)

begins : Stands two_offers (opening (0 ∷ []))
begins = record { in_range = lit< tt; tried = lit< tt; answered = lit≤ tt; legal = legal_at (0 ∷ 1 ∷ 2 ∷ []) 0 (lit≤ tt); moves = lit≤ tt }

-- no table is in force before it has its answer
no_table_ahead : Stands two_offers (record { positions = 0 ∷ []; table = 1; tried = 0; moves = 0 }) → ⊥
no_table_ahead h = omega (arith, h.answered)
