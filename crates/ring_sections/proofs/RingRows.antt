-- Worked rows: a circular wait of two trains at different places, its section, and answers that add.
use Rattle.std.proofs.Common.{◌≡◌, ℕ, zero, suc, ◌<◌, ◌≤◌, List, [], ◌∷◌, ℤ, pos, ◌≤ℤ◌, false, Some, None, Ok, Err, refl, ◌∙◌, ap, sym, subst, lit<, lit≤, arith, inl, inr}
use Rattle.std.specs.Prelude.{All, replicate, ◌+ℤ◌}
use Rattle.std.proofs.lemmas.Int.{ints}
use Rattle.rail_model.specs.Table.{Mission, place, share, count}
use Rattle.rail_model.specs.Move.{Move, IsOver}
use Rattle.forbidden_states.specs.Forbid.{unmarked}
use Rattle.forbidden_states.specs.Completing.{Completable}
use Rattle.forbidden_states.proofs.Apart.{two_apart}
use Rattle.ring_sections.specs.declared.refused.Rings.TheVariants.{Many, Memory}
use Rattle.ring_sections.specs.Answer.{too_many, AddsRings}
use Rattle.ring_sections.specs.Marking.{ring_table, HasRing, Excludes}
use Rattle.ring_sections.specs.Ring.{Pair, IsRing}
use Rattle.ring_sections.specs.Waiting.{NeverMoves}
use Rattle.ring_sections.proofs.RingTests.{Decides-ring}
use Rattle.ring_sections.proofs.Waiting.{loses_nothing}

-- a corridor between points 1 and 2: T0 enters it with its first step, T1 with its second
abbrev pub uneven : List Mission
uneven = (record { points = 0 ∷ 1 ∷ 2 ∷ 3 ∷ []; exits = false }) ∷ (record { points = 4 ∷ 5 ∷ 2 ∷ 1 ∷ 6 ∷ []; exits = false }) ∷ []

abbrev pub ring : List Pair
ring = (0, 1) ∷ (1, 2) ∷ []

is_ring : IsRing uneven ring
is_ring = (Decides-ring uneven ring).0 refl

-- not from its greater train on
not_from_T1 : IsRing uneven ((1, 2) ∷ (0, 1) ∷ []) → ⊥
not_from_T1 r = let less : 1 < 0 = r.least_first 1 (lit< tt) (lit< tt) in omega arith

-- nor with the places exchanged: T0 wants point 3 there, and T1 is at 5
not_exchanged : IsRing uneven ((0, 2) ∷ (1, 1) ∷ []) → ⊥
not_exchanged r = let w = r.waits 0 (lit< tt) in let wants = w.1 in let stands = w.2 in cc

has_ring : HasRing (1 ∷ 2 ∷ []) ring
has_ring = (refl, (refl, tt))

has_ring_not : HasRing (2 ∷ 1 ∷ []) ring → ⊥
has_ring_not h = let one = h.0 in cc

-- its section counts two where the ring is, and its limit is 1
excludes : Excludes (ring_table uneven (ring ∷ [])) (ring ∷ [])
excludes p r legal (zero, lt, same) has = let two : 2 ≤ 1 = at_most_one (subst (HasRing p) (sym same) has) in omega arith
  where
    at_most_one : HasRing p ring → 2 ≤ 1
    at_most_one has =
        let T0 : place p 0 ≡ 1 = has.0 in
        let T1 : place p 1 ≡ 2 = has.1.0 in
        let in_section : ℕ → ℕ → ℤ = λ i k. share (ring_table uneven (ring ∷ [])) i 0 k in
        let counted : count (ring_table uneven (ring ∷ [])) 0 p ≡ pos 2 =
        ap (λ k. (pos 0 +ℤ in_section 0 k) +ℤ in_section 1 (place p 1)) T0 ∙ ap (λ k. (pos 0 +ℤ in_section 0 1) +ℤ in_section 1 k) T1 in
        let limited : count (ring_table uneven (ring ∷ [])) 0 p ≤ℤ pos 1 = legal.within 0 (lit< tt) in
        grind (arith, ints)
excludes p r legal (suc k, lt, same) has = omega (arith, lt)

added : AddsRings {U = Unit {0}} (ring ∷ []) (ring ∷ ((0, 0) ∷ []) ∷ []) (((0, 0) ∷ []) ∷ []) (Ok tt)
added = (refl, lit≤ tt)

full : AddsRings {U = Unit {0}} (replicate 64 ring) [] (ring ∷ []) (Err (Many 65))
full = inr (refl, lit< tt)

no_memory : AddsRings {U = Unit {0}} (ring ∷ []) [] (ring ∷ []) (Err Memory)
no_memory = inl refl

not_full : AddsRings {U = Unit {0}} (replicate 63 ring) [] (ring ∷ []) (Err (Many 65)) → ⊥
not_full (inl e) = cc
not_full (inr many) = let more : 64 < 64 = many.1 in omega arith

few_enough : too_many 64 ≡ None
few_enough = refl

one_too_many : too_many 65 ≡ Some (Many 65)
one_too_many = refl

-- ---- two trains head-on in a corridor

rings_there : All (IsRing uneven) (ring ∷ [])
rings_there zero d lt = is_ring
rings_there (suc k) d lt = absurd (omega (arith, lt))

-- where both are in it, the state is over the section
over : IsOver (ring_table uneven (ring ∷ [])) (1 ∷ 2 ∷ []) 0
over = (lit< tt, grind (arith, ints))

-- where T1 is still before it, it isn't
not_over : IsOver (ring_table uneven (ring ∷ [])) (1 ∷ 1 ∷ []) 0 → ⊥
not_over over = let more = over.1 in grind (arith, ints)

-- not both can arrive from there
lost : Completable uneven (1 ∷ 2 ∷ []) → ⊥
lost = loses_nothing uneven (ring ∷ []) rings_there (1 ∷ 2 ∷ []) 0 (two_apart uneven 1 2 refl (lit≤ tt) (lit≤ tt) refl) over

-- a train that waits for nobody moves on
moves : NeverMoves uneven ((0, 1) ∷ []) → ⊥
moves never = let still = never (1 ∷ 1 ∷ []) (0 ∷ []) (2 ∷ 1 ∷ []) (refl, tt) (2 ∷ 1 ∷ [], move, refl) in let there = still.0 in cc
  where
    move : Move (unmarked uneven) (1 ∷ 1 ∷ []) 0 (2 ∷ 1 ∷ [])
    move = record {
      before = two_apart uneven 1 1 refl (lit≤ tt) (lit≤ tt) refl;
      train = lit< tt;
      step = refl;
      after = two_apart uneven 2 1 refl (lit≤ tt) (lit≤ tt) refl;
      free = λ c held. let none = held.1 in cc;
    }
