-- Small cases of each definition.
use Rattle.std.proofs.Common.{◌≡◌, ℕ, zero, suc, ◌<◌, ◌-◌, ◌^◌, List, [], ◌∷◌, length, Some, None, refl, sym, inl, inr, arith, lit≤, lit<}
use Rattle.std.specs.Prelude.{slice_index_or}
use Rattle.std.proofs.Math.Nat.{le_refl}
use Rattle.ats_io.specs.Bytes.{Adds, AddsPrefix, ConsumesAtMost}
use Rattle.ats_io.specs.Faults.{Rose, next_count}
use Rattle.ats_io.specs.declared.memory.room.TheConstants.{SINK_ROOM}
use Rattle.ats_io.specs.Memory.{MustFail, HasMade, starting, after_pass, after_fault, told_after}

-- a fourth fault
pub fourth_fault : next_count 3 ≡ 4
fourth_fault = refl

-- the count is at the end of its type
pub full_count : next_count (2 ^ 64 - 1) ≡ 2 ^ 64 - 1
full_count = refl

-- from three faults to four the count rose
pub rose : Rose 3 4
rose = lit≤ tt

-- where it stands it did not
pub not_risen : Rose 3 3 → ⊥
not_risen h = omega (arith, h)

-- but at the end of its type it counts as risen
pub rose_at_the_end : Rose (2 ^ 64 - 1) (2 ^ 64 - 1)
rose_at_the_end = lit≤ tt

-- 1 and 2 were taken, and then 3
pub adds : Adds (Some (1 ∷ 2 ∷ [])) (Some (1 ∷ 2 ∷ 3 ∷ [])) (3 ∷ [])
adds = refl

-- a sink may stop telling
pub stops_telling : Adds (Some (1 ∷ [])) None (3 ∷ [])
stops_telling = tt

-- and doesn't begin to tell
pub never_begins_to_tell : Adds None (Some (3 ∷ [])) (3 ∷ []) → ⊥
never_begins_to_tell h = h

-- of 3, 4, 5 the first two were taken
pub adds_two : AddsPrefix (Some (1 ∷ [])) (Some (1 ∷ 3 ∷ 4 ∷ [])) (3 ∷ 4 ∷ 5 ∷ [])
adds_two = (2, refl)

-- two of four bytes are gone
pub two_gone : ConsumesAtMost 2 (Some (1 ∷ 2 ∷ 3 ∷ 4 ∷ [])) (Some (3 ∷ 4 ∷ []))
two_gone = (1 ∷ 2 ∷ [], refl, lit≤ tt)

-- the second call fails: its number is 1
pub second_call_fails : MustFail (record { taken = 7 ∷ []; most = 16; plan = after_pass (starting (1 ∷ [])) }) (8 ∷ [])
second_call_fails = inl (0, lit< tt, refl)

-- after it there were two calls and one fault
pub one_fault : after_fault (after_pass (starting (1 ∷ []))) ≡ record { fails = 1 ∷ []; call = 2; faults = 1 }
one_fault = refl

-- of two calls the second, whose number is 1, was made
pub second_made : HasMade (1 ∷ []) 2
second_made = (1, (0, lit< tt, refl), lit≤ tt)

-- the third wasn't
pub third_not_made : HasMade (2 ∷ []) 2 → ⊥
third_not_made h = omega (arith, h.2, only 2 h.1.0 h.0 h.1.1 h.1.2)
  where
    -- a list of one number contains that one alone
    only : (x i n : ℕ) → i < length (x ∷ []) → slice_index_or (x ∷ []) i n ≡ n → n ≡ x
    only x zero n below is = sym is
    only x (suc i) n below is = absurd (omega (arith, below))

-- two bytes, and a third
pub goes_on_telling : told_after (Some (1 ∷ 2 ∷ [])) (3 ∷ []) ≡ Some (1 ∷ 2 ∷ 3 ∷ [])
goes_on_telling = refl

-- once it tells nothing it tells nothing any more
pub stays_silent : told_after None (3 ∷ []) ≡ None
stays_silent = refl

-- one byte past the room
pub past_the_room : (taken : List ℕ) → length taken ≡ SINK_ROOM → told_after (Some taken) (3 ∷ []) ≡ None
past_the_room taken full = rw full refl

-- a full sink fails where it is given a byte
pub full_sink_fails : (taken : List ℕ) → length taken ≡ SINK_ROOM → MustFail (record { taken = taken; most = 16; plan = starting [] }) (3 ∷ [])
full_sink_fails taken full = inr (lit< tt, rw full (le_refl SINK_ROOM))
