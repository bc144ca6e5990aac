-- Worked rows: what trains are told, and the first causes why states are illegal, on small tables.
use Rattle.std.proofs.Common.{◌≡◌, ◌∷◌, [], ℕ, zero, suc, ◌<◌, ◌≤◌, pos, negsuc, false, true, refl, lit<, lit≤, arith}
use Rattle.std.proofs.lemmas.Int.{ints}
use Rattle.rail_model.specs.Table.{Table, trains, last}
use Rattle.rail_model.specs.Checks.{ask}
use Rattle.rail_model.specs.declared.types.Ask.TheVariants.{Yes, Arrived, Occupied, Full, Waits}
use Rattle.legal_state.specs.declared.judges.Illegal.TheVariants.{Length, Range, Clash, Over}
use Rattle.legal_state.specs.Causes.{IsOut, IsInRange, SharesPoint, HasPair}
use Rattle.legal_state.specs.Illegal.{IsIllegal}

-- the corridor A M N B against C N M D, with a section for one train
abbrev corridor : Table
corridor = record {
  missions = record { points = 0 ∷ 1 ∷ 2 ∷ 3 ∷ []; exits = false } ∷ record { points = 4 ∷ 2 ∷ 1 ∷ 5 ∷ []; exits = false } ∷ [];
  sections = record { limit = 1; changes = (pos 0 ∷ pos 1 ∷ pos 0 ∷ negsuc 0 ∷ []) ∷ (pos 0 ∷ pos 1 ∷ pos 0 ∷ negsuc 0 ∷ []) ∷ [] } ∷ [];
  connections = [];
}

-- the ten asks of its round robin
ask_1 : ask corridor (0 ∷ 0 ∷ []) 0 ≡ Yes
ask_1 = refl

ask_2 : ask corridor (1 ∷ 0 ∷ []) 1 ≡ Full 0 1
ask_2 = refl

ask_3 : ask corridor (1 ∷ 0 ∷ []) 0 ≡ Yes
ask_3 = refl

ask_4 : ask corridor (2 ∷ 0 ∷ []) 1 ≡ Occupied 0
ask_4 = refl

ask_5 : ask corridor (2 ∷ 0 ∷ []) 0 ≡ Yes
ask_5 = refl

ask_6 : ask corridor (3 ∷ 0 ∷ []) 1 ≡ Yes
ask_6 = refl

ask_7 : ask corridor (3 ∷ 1 ∷ []) 0 ≡ Arrived
ask_7 = refl

ask_8 : ask corridor (3 ∷ 1 ∷ []) 1 ≡ Yes
ask_8 = refl

ask_9 : ask corridor (3 ∷ 2 ∷ []) 0 ≡ Arrived
ask_9 = refl

ask_10 : ask corridor (3 ∷ 2 ∷ []) 1 ≡ Yes
ask_10 = refl

-- T0 may leave A only when T1 has reached D
abbrev waiting : Table
waiting = record {
  missions = record { points = 0 ∷ 1 ∷ []; exits = false } ∷ record { points = 2 ∷ 3 ∷ []; exits = false } ∷ [];
  sections = [];
  connections = record { train = 0; place = 0; other = 1; reached = 1 } ∷ [];
}

held : ask waiting (0 ∷ 0 ∷ []) 0 ≡ Waits 0
held = refl

freed : ask waiting (0 ∷ 1 ∷ []) 0 ≡ Yes
freed = refl

-- two trains that leave the layout after B
abbrev leaving : Table
leaving = record {
  missions = record { points = 0 ∷ 1 ∷ []; exits = true } ∷ record { points = 2 ∷ 1 ∷ []; exits = true } ∷ [];
  sections = [];
  connections = [];
}

behind : ask leaving (1 ∷ 0 ∷ []) 1 ≡ Occupied 0
behind = refl

left : ask leaving (2 ∷ 0 ∷ []) 1 ≡ Yes
left = refl

one_position : IsIllegal waiting (0 ∷ []) (Length 1)
one_position = (refl, λ e. cc)

past_the_end : IsIllegal waiting (0 ∷ 2 ∷ []) (Range 1)
past_the_end = (refl, ((lit< tt, lit< tt), first))
  where
    first : (j : ℕ) → j < 1 → IsOut waiting (0 ∷ 2 ∷ []) j → ⊥
    first zero lt out = omega (arith, out.1)
    first (suc j) lt out = omega (arith, lt)

-- two trains, neither past its last place
both_in_range : (T : Table) (a b : ℕ) → trains T ≡ 2 → a ≤ last T 0 → b ≤ last T 1 → IsInRange T (a ∷ b ∷ [])
both_in_range T a b two first second zero lt = first
both_in_range T a b two first second (suc zero) lt = second
both_in_range T a b two first second (suc (suc i)) lt = absurd (omega (arith, lt))

-- T0 [A, B] and T1 [A, C] start at A together
abbrev together : Table
together = record {
  missions = record { points = 0 ∷ 1 ∷ []; exits = false } ∷ record { points = 0 ∷ 2 ∷ []; exits = false } ∷ [];
  sections = [];
  connections = [];
}

both_at_A : IsIllegal together (0 ∷ 0 ∷ []) (Clash 0 1 0)
both_at_A = (refl, in_range, ((1, pair), λ j lt. absurd (omega (arith, lt))), (pair, first), refl)
  where
    in_range : IsInRange together (0 ∷ 0 ∷ [])
    in_range = both_in_range together 0 0 refl (lit≤ tt) (lit≤ tt)

    pair : SharesPoint together (0 ∷ 0 ∷ []) 0 1
    pair = (lit< tt, lit< tt, (0, refl, refl))

    first : (j : ℕ) → j < 1 → SharesPoint together (0 ∷ 0 ∷ []) 0 j → ⊥
    first j lt p = omega (arith, lt, p.1)

-- the corridor with both trains inside: the section counts two, and its limit is 1
both_inside : IsIllegal corridor (1 ∷ 1 ∷ []) (Over 0 2 1)
both_inside = (refl, in_range, apart, ((lit< tt, grind (arith, ints)), λ j lt. absurd (omega (arith, lt))), refl, refl)
  where
    in_range : IsInRange corridor (1 ∷ 1 ∷ [])
    in_range = both_in_range corridor 1 1 refl (lit≤ tt) (lit≤ tt)

    apart : (i : ℕ) → HasPair corridor (1 ∷ 1 ∷ []) i → ⊥
    apart zero (zero, pair) = omega (arith, pair.1)
    apart zero (suc zero, pair) = let here = pair.2.1 in let there = pair.2.2 in cc
    apart zero (suc (suc k), pair) = omega (arith, pair.0)
    apart (suc i) (k, pair) = omega (arith, pair.0, pair.1)
