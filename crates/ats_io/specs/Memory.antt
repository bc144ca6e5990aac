-- Sources and sinks in memory: what they hold, and how they go on.
use Rattle.std.specs.Prelude.{◌⊎◌, ℕ, ◌+◌, ◌<◌, ◌≤◌, nat_le, List, ◌++◌, length, Contains, Option, None, Some, if◌then◌else◌}
use Rattle.ats_io.specs.Faults.{next_count, Rose}
use Rattle.ats_io.specs.declared.memory.room.TheConstants.{SINK_ROOM}

-- which calls fail: their numbers, the number of the next call, and how many have failed
pub record Plan : Type 0 where
  pub fails : List ℕ
  pub call : ℕ
  pub faults : ℕ

-- the plan before the first call
abbrev pub starting : List ℕ → Plan
starting fails = record { fails = fails; call = 0; faults = 0 }

-- the plan after a call that was answered
abbrev pub after_pass : Plan → Plan
after_pass plan = record plan { call = next_count plan.call }

-- the plan after a call that failed
abbrev pub after_fault : Plan → Plan
after_fault plan = record plan { call = next_count plan.call; faults = next_count plan.faults }

-- one of these numbers is that of a call that was made, where there were this many calls
abbrev pub HasMade : List ℕ → ℕ → Type 0
HasMade numbers calls = (number : ℕ) × Contains numbers number × Rose number calls

-- a source in memory: the bytes that are left, the most that one call gives, and its plan
pub record Supply : Type 0 where
  pub left : List ℕ
  pub most : ℕ
  pub plan : Plan

-- a sink in memory: the bytes that it took, the most that one call takes, and its plan
pub record Store : Type 0 where
  pub taken : List ℕ
  pub most : ℕ
  pub plan : Plan

-- the room of a sink in memory is full
abbrev pub IsFull : List ℕ → Type 0
IsFull taken = SINK_ROOM ≤ length taken

-- a write of this piece fails: its call is one that fails, or there is no room for its first byte
abbrev pub MustFail : Store → List ℕ → Type 0
MustFail sink piece = Contains sink.plan.fails sink.plan.call ⊎ ((0 < length piece) × IsFull sink.taken)

-- what a sink that never fails tells after a further piece: nothing once its room is passed
abbrev pub told_after : Option (List ℕ) → List ℕ → Option (List ℕ)
told_after None piece = None
told_after (Some taken) piece = if nat_le (length taken + length piece) SINK_ROOM then Some (taken ++ piece) else None
