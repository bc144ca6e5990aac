-- Traps: ranges of places that some trains never leave.
use Rattle.std.specs.Prelude.{◌≡◌, ◌≢◌, ◌⊎◌, ℕ, ◌<◌, ◌≤◌, pos, ◌<ℤ◌, List, [], ◌∷◌, length, map, IsTrue, slice_set}
use Rattle.rail_model.specs.Table.{Table, IsTable, trains, last, limit, place}
use Rattle.rail_model.specs.State.{Legal, StandsAt}
use Rattle.rail_model.specs.Certificate.{IsIn}
use Rattle.forbidden_states.specs.Forbid.{Stay, AreStays, InStays}
use Rattle.state_core.specs.Core.{has, count_within, IsKept}
use Rattle.state_core.specs.Guard.{IsGuard}

-- One position per train, in range.
pub record IsPlaced (T : Table) (p : List ℕ) : Type 0 where
  pub one_each : length p ≡ trains T
  pub in_range : (i : ℕ) → i < trains T → place p i ≤ last T i

-- the trains of stays
abbrev pub group_of : List Stay → List ℕ
group_of b = map (λ s. s.train) b

-- The stay is one of them.
abbrev pub IsAmong : List Stay → Stay → Type 0
IsAmong [] s = ⊥
IsAmong (t ∷ later) s = (t ≡ s) ⊎ IsAmong later s

-- The stay ends before its train's last place.
abbrev pub EndsEarly : Table → Stay → Type 0
EndsEarly T s = s.range.hi < last T s.train

-- Where the train is at the end of an early stay, the group keeps it there.
abbrev pub IsKeptAtEnd : Table → List ℕ → List ℕ → Stay → Type 0
IsKeptAtEnd T p group s = place p s.train ≡ s.range.hi → EndsEarly T s → IsKept T p group s.train

-- The trains of the stays keep each of them that is at the end of its stay.
abbrev pub KeepsEnds : Table → List Stay → List ℕ → Type 0
KeepsEnds T b p = (s : Stay) → IsAmong b s → IsKeptAtEnd T p (group_of b) s

-- Stays of different trains, one of which ends early; and wherever the trains are in them, they keep each that is at
-- the end of an early one.
pub record IsTrap (T : Table) (b : List Stay) : Type 0 where
  pub stays : AreStays (trains T) b
  pub early : (s : Stay) × IsAmong b s × EndsEarly T s
  pub kept : (p : List ℕ) → Legal T p → InStays p b → KeepsEnds T b p

-- ---- trains that can't be where they are

-- Two trains stand at one point.
abbrev pub Meet : Table → List ℕ → ℕ → ℕ → Type 0
Meet T p i j = (q : ℕ) × StandsAt T p i q × StandsAt T p j q

-- Two trains of the group stand at one point.
pub record IsCrowded (T : Table) (p group : List ℕ) : Type 0 where
  pub train : ℕ
  pub other : ℕ
  pub train_in : (train < trains T) × IsTrue (has group train)
  pub other_in : (other < trains T) × IsTrue (has group other)
  pub two : train ≢ other
  pub meet : Meet T p train other

-- A section permits fewer than the group's shares.
abbrev pub IsOverWithin : Table → List ℕ → List ℕ → Type 0
IsOverWithin T p group = (s : ℕ) × (s < length T.sections) × (pos (limit T s) <ℤ count_within T group s p)

-- The group's trains can't be there at once, or they keep each that is at the end of its stay.
abbrev pub Holds : Table → List Stay → List ℕ → Type 0
Holds T b p = (IsCrowded T p (group_of b) ⊎ IsOverWithin T p (group_of b)) ⊎ KeepsEnds T b p

-- It is so of each combination of places in the stays, with all other trains where they are.
abbrev pub EachCombination : (List ℕ → Type 0) → List Stay → List ℕ → Type 0
EachCombination P [] p = P p
EachCombination P (s ∷ later) p = (k : ℕ) → IsIn k s.range → EachCombination P later (slice_set p s.train k)

-- ---- what is so of traps

-- No run leaves a trap, and so it is a guard.
abbrev pub TrapsAreGuards : Type 0
TrapsAreGuards = (T : Table) (b : List Stay) → IsTable T → IsTrap T b → IsGuard T b
