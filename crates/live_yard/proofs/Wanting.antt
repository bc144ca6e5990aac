-- What a train is answered by what it was told.
use Rattle.std.proofs.Common.{◌≡◌, ◌≢◌, ℕ, ◌+◌, List, length, ap, refl}
use Rattle.live_yard.specs.declared.told.Told.{Told}
use Rattle.live_yard.specs.declared.told.Told.TheVariants.{May, Arrived, Occupied, Full, Waits, Away, Leaving, Clearing}
use Rattle.live_yard.specs.declared.requests.Reply.TheVariants.{Held}
use Rattle.live_yard.specs.Answers.{Asks, StandsIfHeld, StandsLast, Wants, told_reply}
use Rattle.live_yard.specs.Firing.{DispatchState}
use Rattle.live_yard.specs.Reported.{Reported, TellsTrain, after_told, granted}
use Rattle.live_yard.proofs.Following.{granted_size}

abbrev pub with_wants : Reported → List ℕ → DispatchState
with_wants yard wants = record { yard = yard; wants = wants }

pub held_reply : (told : Told) (n : ℕ) → told ≢ May → Held told ≡ told_reply told n
held_reply May n held = absurd (held refl)
held_reply Arrived n held = refl
held_reply (Occupied by) n held = refl
held_reply (Full s m) n held = refl
held_reply (Waits c) n held = refl
held_reply Away n held = refl
held_reply (Leaving by) n held = refl
held_reply (Clearing s m) n held = refl

pub held_stands : (told : Told) (wants longer : List ℕ) (i : ℕ) → told ≢ May → told ≢ Arrived
    → StandsLast wants i longer
    → StandsIfHeld told wants i longer
held_stands May wants longer i held other stands = absurd (held refl)
held_stands Arrived wants longer i held other stands = absurd (other refl)
held_stands (Occupied by) wants longer i held other stands = stands
held_stands (Full s m) wants longer i held other stands = stands
held_stands (Waits c) wants longer i held other stands = stands
held_stands Away wants longer i held other stands = stands
held_stands (Leaving by) wants longer i held other stands = stands
held_stands (Clearing s m) wants longer i held other stands = stands

-- no report is added or lost
pub told_size : (v : Reported) (i : ℕ) (told : Told) → length (after_told v i told).there ≡ length v.there
told_size v i May = granted_size v i
told_size v i Arrived = refl
told_size v i (Occupied by) = refl
told_size v i (Full s m) = refl
told_size v i (Waits c) = refl
told_size v i Away = refl
told_size v i (Leaving by) = refl
told_size v i (Clearing s m) = refl

pub asks_told : (v : DispatchState) (i n : ℕ) (told : Told) → TellsTrain v.yard i told → n ≡ length v.yard.run.lines + 1
    → Asks v i (told_reply told n) (with_wants (after_told v.yard i told) v.wants)
asks_told v i n May tells line = (tells, refl, line)
asks_told v i n Arrived tells line = (tells, λ e. cc, refl)
asks_told v i n (Occupied by) tells line = (tells, λ e. cc, refl)
asks_told v i n (Full s m) tells line = (tells, λ e. cc, refl)
asks_told v i n (Waits c) tells line = (tells, λ e. cc, refl)
asks_told v i n Away tells line = (tells, λ e. cc, refl)
asks_told v i n (Leaving by) tells line = (tells, λ e. cc, refl)
asks_told v i n (Clearing s m) tells line = (tells, λ e. cc, refl)

pub wants_told : (v : DispatchState) (i n : ℕ) (told : Told) (longer : List ℕ) → TellsTrain v.yard i told
    → n ≡ length v.yard.run.lines + 1
    → StandsIfHeld told v.wants i longer → Wants v i (told_reply told n) (with_wants (after_told v.yard i told) longer)
wants_told v i n May longer tells line same =
    (tells, ap (λ (wants : List ℕ). with_wants (granted v.yard i) wants) same, line)
wants_told v i n Arrived longer tells line same = (tells, ap (λ (wants : List ℕ). with_wants v.yard wants) same)
wants_told v i n (Occupied by) longer tells line stands = (tells, λ e. cc, refl, stands)
wants_told v i n (Full s m) longer tells line stands = (tells, λ e. cc, refl, stands)
wants_told v i n (Waits c) longer tells line stands = (tells, λ e. cc, refl, stands)
wants_told v i n Away longer tells line stands = (tells, λ e. cc, refl, stands)
wants_told v i n (Leaving by) longer tells line stands = (tells, λ e. cc, refl, stands)
wants_told v i n (Clearing s m) longer tells line stands = (tells, λ e. cc, refl, stands)
