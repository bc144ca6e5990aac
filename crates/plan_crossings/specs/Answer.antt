-- What the sections of crossings are, or why there are none.
use Rattle.std.specs.Prelude.{◌≡◌, ◌≤◌, ◌<◌, ◌+◌, ℕ, List, [], length, take, Some, None, slice_index_or}
use Rattle.clash_sections.specs.declared.refused.Refused.{Refused as ClashesRefused}
use Rattle.clash_sections.specs.declared.refused.Refused.TheVariants.{FreeOfItself, Many as TooMany, Memory as OutOfMemory}
use Rattle.plan_crossings.specs.declared.refused.Fault.{Fault}
use Rattle.plan_crossings.specs.declared.refused.Refused.{Refused}
use Rattle.plan_crossings.specs.declared.refused.Refused.TheVariants.{Faulty, Many, Memory}
use Rattle.plan_crossings.specs.Crossings.{Crossing}
use Rattle.plan_crossings.specs.Faults.{fault}
use Rattle.plan_crossings.specs.Sections.{WaySection, IsExact, IsExactFor}
use Rattle.plan_crossings.specs.States.{Route}

abbrev pub crossing_of : List Crossing → ℕ → Crossing
crossing_of crossings k = slice_index_or crossings k (record { ways = []; parallel = [] })

-- Nothing is wrong with the first n crossings.
abbrev pub AreSoundBelow : List Crossing → List Route → ℕ → Type 0
AreSoundBelow crossings routes n = (k : ℕ) → k < n → fault routes (crossing_of crossings k) ≡ None

-- Nothing is wrong with any.
abbrev pub AreSound : List Crossing → List Route → Type 0
AreSound crossings routes = AreSoundBelow crossings routes (length crossings)

-- The first crossing with which something is wrong, and what.
pub record IsFirstFault (crossings : List Crossing) (routes : List Route) (k : ℕ) (f : Fault) : Type 0 where
  pub within : k < length crossings
  pub is_fault : fault routes (crossing_of crossings k) ≡ Some f
  pub earlier : AreSoundBelow crossings routes k

-- Nothing is wrong, and for the crossings up to this one so many sections would do, or more, which is more than there is room for.
pub record AreMany (crossings : List Crossing) (routes : List Route) (room k n : ℕ) : Type 0 where
  pub sound : AreSound crossings routes
  pub many : room < n
  pub would_do : (S : List WaySection) × (n ≤ length S) × IsExact (take (k + 1) crossings) routes S

-- Memory ran out; or something is wrong with a crossing; or there are too many sections.
abbrev pub IsRefused : List Crossing → List Route → ℕ → Refused → Type 0
IsRefused crossings routes room Memory = Unit {0}
IsRefused crossings routes room (Faulty k f) = IsFirstFault crossings routes k f
IsRefused crossings routes room (Many k n) = AreMany crossings routes room k n

-- Memory ran out; or so many sections of this crossing would do, which is more than 64.
abbrev pub IsRefusedFor : Crossing → List Route → ClashesRefused → Type 0
IsRefusedFor c routes OutOfMemory = Unit {0}
IsRefusedFor c routes (FreeOfItself a b) = ⊥
IsRefusedFor c routes (TooMany n) = (64 < n) × ((T : List WaySection) × (length T ≡ n) × IsExactFor c routes T)
