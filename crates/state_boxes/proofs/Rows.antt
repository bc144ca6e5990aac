-- Worked rows: rows of shares and how sums move with them, what is listed of the trains' shares, the rises of a table's steps, and which reasons tell that a train has no move.
use Rattle.std.proofs.Common.{◌≡◌, ℕ, zero, suc, ◌<◌, ◌≤◌, ◌%◌, ◌/◌, List, [], ◌∷◌, pos, ◌≤ℤ◌, true, false, slice_index_or, refl, lit<, lit≤, arith}
use Rattle.std.specs.Int.{int_min, int_max}
use Rattle.std.proofs.lemmas.Int.{ints}
use Rattle.rail_model.specs.Table.{Table, share}
use Rattle.rail_model.specs.Certificate.{Range}
use Rattle.state_boxes.specs.declared.extremes.Extremes.{Extremes}
use Rattle.state_boxes.specs.declared.moves.Reason.TheVariants.{Unknown, AtEnd, Blocked, Full}
use Rattle.state_boxes.specs.declared.rises.Rise.{Rise}
use Rattle.state_boxes.specs.Bounds.{bound_at, AreFew, AreSmall, IsSide, AreHalves}
use Rattle.state_boxes.specs.Cells.{cells_of, joined_row, rows_of, AreSingle}
use Rattle.state_boxes.specs.Extremes.{nothing, IsQuiet, AreListed, AreShared, AreMembers}
use Rattle.state_boxes.specs.Reasons.{TellsStanding}
use Rattle.state_boxes.specs.Sums.{sums_of, moved, rises_at, AreSteps, AreRises, IsRise, is_tight, AreAllMembers}

-- section 0 counts both trains: T0 as 1 at its first two places and as 3 at its last, T1 as 1 at its last;
-- section 1 counts only T1, as 1 and then as 2
abbrev two : Table
two = record {
  missions = record { points = 0 ∷ 1 ∷ 2 ∷ []; exits = false } ∷ record { points = 3 ∷ 4 ∷ []; exits = false } ∷ [];
  sections = record { limit = 4; changes = (pos 1 ∷ pos 0 ∷ pos 2 ∷ []) ∷ (pos 0 ∷ pos 1 ∷ []) ∷ [] } ∷ record { limit = 4; changes = (pos 0 ∷ pos 0 ∷ pos 0 ∷ []) ∷ (pos 1 ∷ pos 1 ∷ []) ∷ [] } ∷ [];
  connections = [];
}

-- T0 rises in section 0 from its place 1, by 2 to 3
abbrev rise_0 : Rise
rise_0 = record { section = 0; place = 1; share = pos 3; by = pos 2 }

-- T1 rises from its place 0 in both sections, by 1
abbrev rises_1 : List Rise
rises_1 = record { section = 0; place = 0; share = pos 1; by = pos 1 } ∷ record { section = 1; place = 0; share = pos 2; by = pos 1 } ∷ []

-- two cells, of 0 to 1 and of 1 alone, and two others, of 1 to 2 and of 0 to 1
abbrev front : List Extremes
front = cells_of (pos 0 ∷ pos 1 ∷ []) (pos 1 ∷ pos 1 ∷ [])

abbrev back : List Extremes
back = cells_of (pos 1 ∷ pos 0 ∷ []) (pos 2 ∷ pos 1 ∷ [])

cells : front ≡ record { least = pos 0; greatest = pos 1 } ∷ record { least = pos 1; greatest = pos 1 } ∷ []
cells = refl

-- together they are of 0 to 2 and of 0 to 1
together : joined_row front back ≡ cells_of (pos 0 ∷ pos 0 ∷ []) (pos 2 ∷ pos 1 ∷ [])
together = refl

lesser : bound_at int_min (pos 0 ∷ pos 1 ∷ []) (pos 1 ∷ pos 0 ∷ []) 1 ≡ pos 0
lesser = refl

greater : bound_at int_max (pos 1 ∷ pos 1 ∷ []) (pos 2 ∷ pos 1 ∷ []) 0 ≡ pos 2
greater = refl

greatest_shares : IsSide (λ cell. cell.greatest) front (pos 1 ∷ pos 1 ∷ [])
greatest_shares = (refl, at)
  where
    at : (k : ℕ) → k < 2 → slice_index_or (pos 1 ∷ pos 1 ∷ []) k (pos 0) ≡ (slice_index_or front k nothing).greatest
    at zero lt = refl
    at (suc zero) lt = refl
    at (suc (suc k)) lt = absurd (omega (arith, lt))

-- the greater ones of the greatest shares of both are those of the row together; the lesser ones aren't its least shares
halves : AreHalves int_max (λ cell. cell.greatest) (joined_row front back) (pos 1 ∷ pos 1 ∷ []) (pos 2 ∷ pos 1 ∷ [])
halves = record { first_many = refl; second_many = refl; each = at }
  where
    at : (k : ℕ) → k < 2 → bound_at int_max (pos 1 ∷ pos 1 ∷ []) (pos 2 ∷ pos 1 ∷ []) k ≡ (slice_index_or (joined_row front back) k nothing).greatest
    at zero lt = refl
    at (suc zero) lt = refl
    at (suc (suc k)) lt = absurd (omega (arith, lt))

not_halves : AreHalves int_min (λ cell. cell.least) (joined_row front back) (pos 1 ∷ pos 1 ∷ []) (pos 2 ∷ pos 1 ∷ []) → ⊥
not_halves are = let one : pos 1 ≡ pos 0 = are.each 0 (lit< tt) in cc

few : AreFew int_max 2 (pos 1 ∷ pos 1 ∷ []) (pos 2 ∷ pos 1 ∷ [])
few = record { first_many = refl; second_many = refl; low = low; high = high }
  where
    low : (k : ℕ) → k < 2 → pos 0 ≤ℤ bound_at int_max (pos 1 ∷ pos 1 ∷ []) (pos 2 ∷ pos 1 ∷ []) k
    low zero lt = grind (arith, ints)
    low (suc zero) lt = grind (arith, ints)
    low (suc (suc k)) lt = absurd (omega (arith, lt))

    high : (k : ℕ) → k < 2 → bound_at int_max (pos 1 ∷ pos 1 ∷ []) (pos 2 ∷ pos 1 ∷ []) k ≤ℤ pos 4
    high zero lt = grind (arith, ints)
    high (suc zero) lt = grind (arith, ints)
    high (suc (suc k)) lt = absurd (omega (arith, lt))

not_few : AreFew int_max 1 (pos 5 ∷ []) (pos 0 ∷ []) → ⊥
not_few are = let most : pos 5 ≤ℤ pos 4 = are.high 0 (lit< tt) in grind (arith, ints)

not_small : AreSmall (pos 129 ∷ []) → ⊥
not_small small = let most : pos 129 ≤ℤ pos 128 = (small 0 (lit< tt)).1 in grind (arith, ints)

-- two rows of two cells each stand one after the other
rows : rows_of 2 2 (cells_of (pos 0 ∷ pos 1 ∷ pos 1 ∷ pos 0 ∷ []) (pos 1 ∷ pos 1 ∷ pos 2 ∷ pos 1 ∷ [])) ≡ front ∷ back ∷ []
rows = refl

-- T0's shares, place by place: of section 0 it has 1, 1 and 3, of section 1 none
single : AreSingle two 0 (pos 1 ∷ pos 0 ∷ pos 1 ∷ pos 0 ∷ pos 3 ∷ pos 0 ∷ [])
single = (refl, at)
  where
    at : (k : ℕ) → k < 6 → slice_index_or (pos 1 ∷ pos 0 ∷ pos 1 ∷ pos 0 ∷ pos 3 ∷ pos 0 ∷ []) k (pos 0) ≡ share two 0 (k % 2) (k / 2)
    at zero lt = refl
    at (suc zero) lt = refl
    at (suc (suc zero)) lt = refl
    at (suc (suc (suc zero))) lt = refl
    at (suc (suc (suc (suc zero)))) lt = refl
    at (suc (suc (suc (suc (suc zero))))) lt = refl
    at (suc (suc (suc (suc (suc (suc k)))))) lt = absurd (omega (arith, lt))

-- where a train's share goes from at most 1 to 1 alone, the sum of the least shares goes up by 1
sum_moves : moved (record { least = pos 2; greatest = pos 5 }) (record { least = pos 0; greatest = pos 1 }) (record { least = pos 1; greatest = pos 1 })
    ≡ record { least = pos 3; greatest = pos 5 }
sum_moves = refl

sums : sums_of (pos 2 ∷ []) (pos 5 ∷ []) ≡ record { least = pos 2; greatest = pos 5 } ∷ []
sums = refl

-- 1, 3, 5 and so on
abbrev IsOdd : ℕ → Type 0
IsOdd zero = ⊥
IsOdd (suc zero) = Unit {0}
IsOdd (suc (suc n)) = IsOdd n

-- of 1 to 4 the even 2 and 4 are listed, and the others, 1 and 3, are odd
listed : AreListed IsOdd 1 5 (2 ∷ 4 ∷ [])
listed = (lit≤ tt, lit< tt, first, (lit≤ tt, lit< tt, second, (lit≤ tt, third)))
  where
    first : (k : ℕ) → 1 ≤ k → k < 2 → IsOdd k
    first zero ge lt = absurd (omega (arith, ge))
    first (suc zero) ge lt = tt
    first (suc (suc k)) ge lt = absurd (omega (arith, lt))

    second : (k : ℕ) → 3 ≤ k → k < 4 → IsOdd k
    second zero ge lt = absurd (omega (arith, ge))
    second (suc zero) ge lt = absurd (omega (arith, ge))
    second (suc (suc zero)) ge lt = absurd (omega (arith, ge))
    second (suc (suc (suc zero))) ge lt = tt
    second (suc (suc (suc (suc k)))) ge lt = absurd (omega (arith, lt))

    third : (k : ℕ) → 5 ≤ k → k < 5 → IsOdd k
    third k ge lt = absurd (omega (arith, ge, lt))

-- without the 4 the list isn't whole, as 4 isn't odd
not_listed : AreListed IsOdd 1 5 (2 ∷ []) → ⊥
not_listed all = all.3.1 4 (lit≤ tt) (lit< tt)

-- T0 has no share of section 1
quiet : IsQuiet two 0 1
quiet zero le = refl
quiet (suc zero) le = refl
quiet (suc (suc zero)) le = refl
quiet (suc (suc (suc k))) le = absurd (omega (arith, le))

-- T1 has one of section 0 at its place 1
not_quiet : IsQuiet two 1 0 → ⊥
not_quiet none = let share : pos 1 ≡ pos 0 = none 1 (lit≤ tt) in cc

-- only T1 may have a share of section 1
members : AreMembers two 1 0 2 (1 ∷ [])
members = (lit≤ tt, lit< tt, before, (lit≤ tt, λ k ge lt. absurd (omega (arith, ge, lt))))
  where
    before : (k : ℕ) → 0 ≤ k → k < 1 → IsQuiet two k 1
    before zero ge lt = quiet
    before (suc k) ge lt = absurd (omega (arith, lt))

-- section by section: of section 0 both trains may have a share, of section 1 only T1
all_members : AreAllMembers two ((0 ∷ 1 ∷ []) ∷ (1 ∷ []) ∷ [])
all_members = (refl, of)
  where
    both : AreMembers two 0 0 2 (0 ∷ 1 ∷ [])
    both = (lit≤ tt, lit< tt, (λ k ge lt. absurd (omega (arith, lt))), (lit≤ tt, lit< tt, (λ k ge lt. absurd (omega (arith, ge, lt))), (lit≤ tt, λ k ge lt. absurd (omega (arith, ge, lt)))))

    of : (s : ℕ) → s < 2 → AreMembers two s 0 2 (slice_index_or ((0 ∷ 1 ∷ []) ∷ (1 ∷ []) ∷ []) s [])
    of zero lt = both
    of (suc zero) lt = members
    of (suc (suc s)) lt = absurd (omega (arith, lt))

-- T0 may have a share of section 0 alone
shared : AreShared two 0 0 2 (0 ∷ [])
shared = (lit≤ tt, lit< tt, λ k ge lt. absurd (omega (arith, lt)), (lit≤ tt, later))
  where
    later : (k : ℕ) → 1 ≤ k → k < 2 → IsQuiet two 0 k
    later zero ge lt = absurd (omega (arith, ge))
    later (suc zero) ge lt = quiet
    later (suc (suc k)) ge lt = absurd (omega (arith, lt))

-- the first step of T0 adds to no section, its second one to section 0
no_rise : rises_at two 0 0 2 ≡ []
no_rise = refl

one_rise : rises_at two 0 1 2 ≡ rise_0 ∷ []
one_rise = refl

two_rises : rises_at two 1 0 2 ≡ rises_1
two_rises = refl

-- the rises of T0, and those of T1, by place
steps_0 : AreSteps two 0 ([] ∷ (rise_0 ∷ []) ∷ [])
steps_0 = (refl, at)
  where
    at : (a : ℕ) → a < 2 → slice_index_or ([] ∷ (rise_0 ∷ []) ∷ []) a [] ≡ rises_at two 0 a 2
    at zero lt = refl
    at (suc zero) lt = refl
    at (suc (suc a)) lt = absurd (omega (arith, lt))

steps_1 : AreSteps two 1 (rises_1 ∷ [])
steps_1 = (refl, at)
  where
    at : (a : ℕ) → a < 1 → slice_index_or (rises_1 ∷ []) a [] ≡ rises_at two 1 a 2
    at zero lt = refl
    at (suc a) lt = absurd (omega (arith, lt))

-- the rises of both, by train and place
rises : AreRises two (([] ∷ (rise_0 ∷ []) ∷ []) ∷ (rises_1 ∷ []) ∷ [])
rises = (refl, of)
  where
    of : (i : ℕ) → i < 2 → AreSteps two i (slice_index_or (([] ∷ (rise_0 ∷ []) ∷ []) ∷ (rises_1 ∷ []) ∷ []) i [])
    of zero lt = steps_0
    of (suc zero) lt = steps_1
    of (suc (suc i)) lt = absurd (omega (arith, lt))

-- T0's rise is one of T0 and none of T1, which has no step from its place 1
is_rise : IsRise two 0 rise_0
is_rise = record { section_in = lit< tt; place_in = lit< tt; up = grind (arith, ints); by_is = refl; share_is = refl }

not_rise : IsRise two 1 rise_0 → ⊥
not_rise rise = omega (arith, rise.place_in)

-- while T1 may be at its end, the section may count 4 after T0's step: as many as its limit, and too many for a limit of 3;
-- where T0 can't be at place 1, its step from there is not asked of
abbrev spans : ℕ → ℕ → List Range
spans lo hi = record { lo = lo; hi = hi } ∷ record { lo = 0; hi = 1 } ∷ []

abbrev narrow : Table
narrow = record { missions = two.missions; sections = record { limit = 3; changes = (pos 1 ∷ pos 0 ∷ pos 2 ∷ []) ∷ (pos 0 ∷ pos 1 ∷ []) ∷ [] } ∷ []; connections = [] }

room : is_tight two (spans 0 2) 0 rise_0 ≡ false
room = refl

no_room : is_tight narrow (spans 0 2) 0 rise_0 ≡ true
no_room = refl

not_there : is_tight narrow (spans 0 0) 0 rise_0 ≡ false
not_there = refl

-- a train at its end and a blocked one have no move; a rise and an unknown reason tell nothing
end_tells : TellsStanding AtEnd
end_tells = tt

block_tells : TellsStanding (Blocked (record { place = 0; spot = record { train = 1; place = 2 } }))
block_tells = tt

rise_tells_not : TellsStanding (Full (record { place = 1; number = 0 })) → ⊥
rise_tells_not tells = tells

unknown_tells_not : TellsStanding Unknown → ⊥
unknown_tells_not tells = tells
