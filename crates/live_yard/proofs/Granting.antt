-- A train that asks for its next place, and may go on, is granted it.
use Rattle.std.proofs.Common.{◌≡◌, ◌≢◌, ℕ, ◌+◌, length, Option, Some, None, ap, arith, inl, inr}
use Rattle.live_yard.specs.declared.told.Told.{Told}
use Rattle.live_yard.specs.declared.told.Told.TheVariants.{May, Arrived, Occupied, Full, Waits, Away, Leaving, Clearing}
use Rattle.live_yard.proofs.Once.{tells_may}
use Rattle.live_yard.specs.declared.requests.Elsewhere.{Elsewhere as ElsewhereValue}
use Rattle.live_yard.specs.declared.requests.Elsewhere.TheVariants.{Beyond, Ahead, Before}
use Rattle.live_yard.specs.declared.requests.Reply.{Reply}
use Rattle.live_yard.specs.declared.requests.Reply.TheVariants.{Granted, Held, Elsewhere, Dropped, There, NotThere}
use Rattle.live_yard.specs.declared.requests.Reply.TheVariants.{NoReports, Tried, TriedBefore, TooSoon, NoTable}
use Rattle.live_yard.specs.Answers.{Asks, AtNext, Wants}
use Rattle.live_yard.specs.Firing.{DispatchState}
use Rattle.live_yard.specs.Reported.{Reported, IsElsewhere, IsNext, MayGoOn, NamesElsewhere, NamesNext, TellsTrain}

-- the next place is nowhere else
not_next : (v : Reported) (i k : ℕ) (found : ElsewhereValue) → IsNext v i k → IsElsewhere v i k found → ⊥
not_next v i k (Beyond l) next is = omega (arith, next.1, is.0, is.1)
not_next v i k (Ahead at) next is = omega (arith, next.0, is.0, is.1)
not_next v i k (Before how) next is = omega (arith, next.0, is.0)

pub not_named : (v : Reported) (i : ℕ) (named : Option ℕ) (found : ElsewhereValue) → NamesNext v i named
    → NamesElsewhere v i named found → ⊥
not_named v i None found next is = is
not_named v i (Some k) found next is = not_next v i k found next is

pub asks_grants : (v w : DispatchState) (i : ℕ) (reply : Reply) → Asks v i reply w → MayGoOn v.yard i
    → reply ≡ Granted (length v.yard.run.lines + 1)
asks_grants v w i (Granted n) asks may = ap (λ (m : ℕ). Granted m) asks.2
asks_grants v w i (Held told) asks may = absurd (asks.1 (tells_may _ _ _ i told asks.0 may))
asks_grants v w i (Elsewhere place) asks may = absurd asks
asks_grants v w i (Dropped n) asks may = absurd asks
asks_grants v w i (There k) asks may = absurd asks
asks_grants v w i (NotThere at) asks may = absurd asks
asks_grants v w i NoReports asks may = absurd asks
asks_grants v w i (Tried tried) asks may = absurd asks
asks_grants v w i (TriedBefore n) asks may = absurd asks
asks_grants v w i (TooSoon tried) asks may = absurd asks
asks_grants v w i (NoTable n) asks may = absurd asks

-- a train that is held was told so
held_tells : (v w : DispatchState) (i : ℕ) (told : Told) → Wants v i (Held told) w → TellsTrain v.yard i told
    × (told ≢ May)
held_tells v w i May wants = absurd (wants.1 (λ j. May))
held_tells v w i Arrived wants = (wants.0, λ e. cc)
held_tells v w i (Occupied by) wants = (wants.0, wants.1)
held_tells v w i (Full s n) wants = (wants.0, wants.1)
held_tells v w i (Waits c) wants = (wants.0, wants.1)
held_tells v w i Away wants = (wants.0, wants.1)
held_tells v w i (Leaving by) wants = (wants.0, wants.1)
held_tells v w i (Clearing s n) wants = (wants.0, wants.1)

pub wants_grants : (v w : DispatchState) (i : ℕ) (reply : Reply) → Wants v i reply w → MayGoOn v.yard i
    → reply ≡ Granted (length v.yard.run.lines + 1)
wants_grants v w i (Held told) wants may =
    let tells = held_tells v w i told wants in
    absurd (tells.1 (tells_may _ _ _ i told tells.0 may))
wants_grants v w i (Granted n) wants may = asks_grants v w i (Granted n) wants may
wants_grants v w i (Elsewhere place) wants may = absurd wants
wants_grants v w i (Dropped n) wants may = absurd wants
wants_grants v w i (There k) wants may = absurd wants
wants_grants v w i (NotThere at) wants may = absurd wants
wants_grants v w i NoReports wants may = absurd wants
wants_grants v w i (Tried tried) wants may = absurd wants
wants_grants v w i (TriedBefore n) wants may = absurd wants
wants_grants v w i (TooSoon tried) wants may = absurd wants
wants_grants v w i (NoTable n) wants may = absurd wants

-- a train that names its next place asks
pub at_next : (v : DispatchState) (i : ℕ) (named : Option ℕ) (reply : Reply) (w : DispatchState) (asks : Type 0)
    → NamesNext v.yard i named → AtNext v i named reply w asks → asks
at_next v i named reply w asks next at = elim at [
  | inl is ↦ is.1
  | inr other ↦ absurd (not_named v.yard i named other.0 next other.2)
]
