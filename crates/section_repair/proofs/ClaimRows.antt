-- Worked rows: who waits for whom, what a section weighs, and claims that fail of a wrong table.
use Rattle.std.proofs.Common.{◌≡◌, ℕ, zero, suc, ◌<◌, ◌≤◌, [], ◌∷◌, refl, lit<, lit≤, arith, inl, inr}
use Rattle.std.proofs.lemmas.Int.{ints}
use Rattle.rail_model.specs.declared.types.Ask.TheVariants.{Full}
use Rattle.rail_model.specs.Certificate.{arrived}
use Rattle.rail_model.specs.Move.{IsOver, Answers, Blocks}
use Rattle.rail_model.specs.Table.{Table, last, place}
use Rattle.forbidden_states.specs.Forbid.{unmarked, marked}
use Rattle.legal_state.specs.declared.judges.Illegal.TheVariants.{Over}
use Rattle.legal_state.specs.Causes.{HasPair}
use Rattle.legal_state.specs.Illegal.{IsIllegal}
use Rattle.section_repair.specs.declared.repaired.Repair.TheVariants.{Done}
use Rattle.section_repair.specs.Claims.{IsApart, ForbidsOnlyIncompletable, IsExact, HasShare, StandAlike, DoomsAlike, WaitsFor, IsClosed}
use Rattle.section_repair.specs.Core.{smallest}
use Rattle.section_repair.specs.Joining.{settled}
use Rattle.forbidden_states.proofs.Apart.{two_apart}
use Rattle.section_repair.proofs.RepairRows.{starts, mended, certificate, done, dead, passing, passing_starts, completable}
use Rattle.section_repair.proofs.Kept.{is_exact}
use Rattle.section_repair.proofs.Samples.{stay, long, head_on, follower}

abbrev two_sections : Table
two_sections = marked long ((stay 0 1 1 ∷ stay 1 2 2 ∷ []) ∷ (stay 0 2 2 ∷ stay 1 1 1 ∷ []) ∷ [])

-- T0 at point 1 wants point 2, and T1 at point 2 wants point 1
waits_for_occupant : WaitsFor (marked long []) (1 ∷ 2 ∷ []) 0 1
waits_for_occupant = inl (lit< tt, (lit< tt, λ e. cc, (2, refl, refl)))

-- the second section has room for one, and T1 has it
full_answer : Answers two_sections (1 ∷ 1 ∷ []) 0 (Full 1 1)
full_answer = (lit< tt, none, ((lit< tt, grind (arith, ints)), first), refl)
  where
    none : (by : ℕ) → Blocks two_sections (1 ∷ 1 ∷ []) 0 by → ⊥
    none zero blocks = blocks.1 refl
    none (suc zero) blocks = let wants = blocks.2.1 in let stands = blocks.2.2 in cc
    none (suc (suc by)) blocks = omega (arith, blocks.0)

    first : (j : ℕ) → j < 1 → IsOver two_sections (2 ∷ 1 ∷ []) j → ⊥
    first zero lt over = let more = over.1 in grind (arith, ints)
    first (suc j) lt over = omega (arith, lt)

waits_for_share : WaitsFor two_sections (1 ∷ 1 ∷ []) 0 1
waits_for_share = inr (1, 1, full_answer, lit< tt, λ e. cc, grind (arith, ints))

-- a section of T1 and T2, and none of T0
abbrev of_two : Table
of_two = marked follower ((stay 1 0 0 ∷ stay 2 0 0 ∷ []) ∷ [])

has_share : HasShare of_two 2 0
has_share = (0, lit≤ tt, grind (arith, ints))

has_no_share : HasShare of_two 0 0 → ⊥
has_no_share (zero, low, some) = grind (arith, ints)
has_no_share (suc zero, low, some) = grind (arith, ints)
has_no_share (suc (suc k), low, some) = omega (arith, low)

-- T0 is elsewhere
stand_alike : StandAlike of_two 0 (1 ∷ 0 ∷ 0 ∷ []) (0 ∷ 0 ∷ 0 ∷ [])
stand_alike zero lt share = absurd (has_no_share share)
stand_alike (suc zero) lt share = refl
stand_alike (suc (suc zero)) lt share = refl
stand_alike (suc (suc (suc i))) lt share = absurd (omega (arith, lt))

stand_otherwise : StandAlike of_two 0 (0 ∷ 0 ∷ 1 ∷ []) (0 ∷ 0 ∷ 0 ∷ []) → ⊥
stand_otherwise alike = let same = alike 2 (lit< tt) has_share in cc

-- T0 waits for T1
not_closed : IsClosed (marked follower []) (0 ∷ 0 ∷ 0 ∷ []) (0 ∷ []) → ⊥
not_closed closed = let in_it = closed 0 1 (lit< tt) refl refl in cc

exact : IsExact head_on (Done mended certificate 1)
exact = is_exact head_on 7 1 (Done mended certificate 1) done

-- without a section both trains may be at their starts, from which they can't arrive
not_exact : IsExact head_on (Done (unmarked head_on) certificate 1) → ⊥
not_exact exact =
    let apart : IsApart head_on (0 ∷ 0 ∷ []) = two_apart head_on 0 0 refl (lit≤ tt) (lit≤ tt) refl in
    dead ((exact (0 ∷ 0 ∷ []) apart).0 apart)

-- a section that the passing trains don't need
abbrev needless : Table
needless = marked passing (starts ∷ [])

over_needless : IsOver needless (0 ∷ 0 ∷ []) 0
over_needless = (lit< tt, grind (arith, ints))

loses : ForbidsOnlyIncompletable passing needless → ⊥
loses keeps = keeps (0 ∷ 0 ∷ []) 0 passing_starts over_needless completable

illegal : IsIllegal needless (0 ∷ 0 ∷ []) (Over 0 2 1)
illegal = (refl, in_range, none, (over_needless, λ j lt. absurd (omega (arith, lt))), refl, refl)
  where
    in_range : (i : ℕ) → i < 2 → place (0 ∷ 0 ∷ []) i ≤ last needless i
    in_range zero lt = lit≤ tt
    in_range (suc zero) lt = lit≤ tt
    in_range (suc (suc i)) lt = absurd (omega (arith, lt))

    none : (i : ℕ) → HasPair needless (0 ∷ 0 ∷ []) i → ⊥
    none zero (zero, pair) = omega (arith, pair.1)
    none zero (suc zero, pair) = let here = pair.2.1 in let there = pair.2.2 in cc
    none zero (suc (suc k), pair) = omega (arith, pair.0)
    none (suc i) (k, pair) = omega (arith, pair.0, pair.1)

dooms_not : DoomsAlike passing (Done needless arrived 1) → ⊥
dooms_not dooms = dooms (0 ∷ 0 ∷ []) (0 ∷ 0 ∷ []) 0 2 1 illegal passing_starts (λ i lt share. refl) completable

-- the last section joins with the first, and then with the second
two_joins : settled ((stay 0 1 1 ∷ stay 1 1 1 ∷ []) ∷ (stay 0 1 2 ∷ stay 1 2 2 ∷ []) ∷ []) (stay 0 2 2 ∷ stay 1 1 1 ∷ []) ≡ (stay 0 1 2 ∷ stay 1 1 2 ∷ []) ∷ []
two_joins = refl

-- of two smallest groups the first
tie : smallest ((3 ∷ 4 ∷ 5 ∷ []) ∷ (1 ∷ 2 ∷ []) ∷ (0 ∷ 7 ∷ []) ∷ []) ≡ 1 ∷ 2 ∷ []
tie = refl
